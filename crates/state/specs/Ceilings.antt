-- What the reader keeps true of a state.
use Rattle.std.specs.Prelude.{◌≤◌}
use Rattle.data.specs.declared.State.{State}

-- the ceilings, so that no count wraps and each wire has a record
pub record UnderCeilings (st : State) : Type 0 where
  pub few_wires : st.n ≤ 128
  pub few_rands : st.rands ≤ 64
  pub few_pubs : st.pubs ≤ 16

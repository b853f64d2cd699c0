-- Whether a state has room for one wire more, ceiling by ceiling.
use Rattle.std.specs.Prelude.{◌≡◌, true, false, ℕ, ◌+◌, ◌≤◌, ◌<◌}
use Rattle.std.proofs.Common.{lt-ltb, le-ltb, le-leb}
use Rattle.std.proofs.lemmas.Bool.{lt-leb}
use Rattle.data.specs.Basics.{one}
use Rattle.document.specs.Routine.{is_rand, is_pub}
use Rattle.document.specs.Reading.{has_room}
use Rattle.data.specs.declared.Kind.{Kind}
use Rattle.data.specs.declared.State.{State}

module _ (st : State) (k : Kind) where
  -- none where there are 128 wires
  pub no_wire : 128 ≤ st.n → false ≡ has_room st k
  unfolding has_room
  no_wire h = simp (le-ltb _ _ h)

  -- none where the randoms would be more than 64
  pub no_rand : {r : ℕ} → r ≡ one (is_rand k) → st.n < 128 → 64 < st.rands + r → false ≡ has_room st k
  unfolding has_room
  no_rand e h i = simp (lt-ltb _ _ h, ← e, lt-leb _ _ i)

  -- none where the publics would be more than 16
  pub no_pub : {r p : ℕ} → r ≡ one (is_rand k) → p ≡ one (is_pub k) → st.n < 128 → st.rands + r ≤ 64 → 16 < st.pubs + p → false ≡ has_room st k
  unfolding has_room
  no_pub e f h i j = simp (lt-ltb _ _ h, ← e, le-leb _ _ i, ← f, lt-leb _ _ j)

  -- room where all three stay within their ceilings
  pub some_room : {r p : ℕ} → r ≡ one (is_rand k) → p ≡ one (is_pub k) → st.n < 128 → st.rands + r ≤ 64 → st.pubs + p ≤ 16 → true ≡ has_room st k
  unfolding has_room
  some_room e f h i j = simp (lt-ltb _ _ h, ← e, le-leb _ _ i, ← f, le-leb _ _ j)

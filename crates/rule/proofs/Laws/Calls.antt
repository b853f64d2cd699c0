-- What the tests before a call on one set give, once they are passed.
use Rattle.std.specs.Prelude.{◌≡◌, refl, true, List, [], ◌∷◌, ℕ, zero, suc, ◌≤◌, ◌<◌, ltb, leb, length, get_or}
use Rattle.std.proofs.Common.{inl, inr, arith, get_or-take, length-take-le}
use Rattle.data.specs.Basics.{each}
use Rattle.document.specs.Routine.{routine_of, well_formed, records_fit}
use Rattle.data.specs.ProbeSets.{held}
use Rattle.document.specs.Padding.{steps}
use Rattle.data.proofs.Laws.Tests.{and_l, and_r, ltb_true, leb_true, Mem, each_at}
use Rattle.document.proofs.Laws.Sound.{sound}
use Rattle.document.proofs.Laws.Orders.{step_count}
use Rattle.data.specs.declared.Wire.{Wire}
use Rattle.data.specs.declared.Shape.{Shape}
use Rattle.data.specs.declared.ProbeSet.{ProbeSet}
use Rattle.records.proofs.Laws.Fitting.{fit_of, a_within, b_within}
use Rattle.marks.specs.Passes.{LowProbes}
use Rattle.shares.specs.Words.{Shares}
use Rattle.rule.specs.Run.{Wired}
use Rattle.asking.specs.Checks.{probes_in}

mem_at : (xs : List ℕ) (i : ℕ) → i < length xs → Mem (get_or xs i 0) xs
mem_at [] i h = absurd (omega arith)
mem_at (x ∷ xs) zero h = inl refl
mem_at (x ∷ xs) (suc i) h = inr (mem_at xs i (omega arith))

pub probes_low : (n t : ℕ) (set : ProbeSet) → length set.places ≡ 4 → t ≤ 4 → n ≤ 128 → probes_in n t set ≡ true → LowProbes set
unfolding probes_in
probes_low n t set l h few e =
    let few-held : leb set.len t ≡ true = search (and_l, and_r) in
    let named : each (λ w. ltb w n) (held set) ≡ true = search (and_l, and_r) in
    let k = leb_true set.len t few-held in
    let sized = length-take-le set.len set.places (omega arith) in
    record {
      at_most = omega arith;
      low_at = λ i hi.
          let z = ltb_true (get_or (held set) i 0) n (each_at (λ w. ltb w n) (held set) named (get_or (held set) i 0) (mem_at (held set) i (omega arith))) in
          let y = get_or-take set.len set.places i 0 hi in
          omega arith;
    }

module _ (σ : Shape) (ws : List Wire) (good : records_fit σ ws ≡ true) where
  pub wired_of : Wired σ.n ws
  wired_of =
      let fit = fit_of σ ws good in
      let few = fit.few in
      record {
        few = fit.few;
        long = fit.long;
        low = λ u h. record { low_a = (let z = a_within fit u h in omega arith); low_b = (let z = b_within fit u h in omega arith) };
      }

  pub shares_of : Shares σ.s σ.d
  shares_of =
      let r = (fit_of σ ws good).range in
      let l = r.d_low in
      record { some_shares = omega arith; few_shares = r.d_high; few_secrets = r.s_high; in_word = r.shares_few }

  pub formed : well_formed (routine_of σ ws) ≡ true
  unfolding records_fit
  formed = and_r (leb σ.n (length ws)) (well_formed (routine_of σ ws)) good

  pub few_steps : (ps : List ℕ) → length (steps (routine_of σ ws) ps) ≤ 128
  few_steps ps =
      let so = sound (routine_of σ ws) formed in
      let a = step_count (routine_of σ ws) so ps in
      let b = so.few in
      omega arith

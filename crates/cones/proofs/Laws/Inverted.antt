-- An inverted wire holds the shares, the randoms and the own randoms that its operand holds: a set is spared a run with the one as with the other.
use Rattle.std.specs.Prelude.{◌≡◌, ltb}
use Rattle.std.proofs.Math.Path.{refl, ap, ap₂}
use Rattle.std.proofs.Common.{sym, ◌∙◌, arith}
use mathlib.Core.List.{List}
use Prim.Native.Nat.{ℕ, ◌*◌, ◌^◌, ◌<◌}
use Rattle.std.specs.Int.Bits.{bit_or, or_zero_l, or_zero_r}
use Rattle.std.proofs.Math.ListN.{length, get_or}
use Rattle.document.specs.Routine.{Routine, size, wire, is_rand, rands_before, operands_of}
use Rattle.data.proofs.Laws.Tests.{bool_cases, cond_false, ltb_true}
use Rattle.document.proofs.Laws.Sound.{Sound}
use Rattle.data.specs.declared.Kind.{Kind}
use Rattle.data.specs.declared.Kind.TheVariants.{Not}
use Rattle.cones.specs.Tables.{built, share_bit, rand_bit, gather, cone_at, share_cones, rand_cones, own_of, own_at, own_rands}
use Rattle.cones.specs.Seen.{Seen, see_wire}
use Rattle.cones.proofs.Laws.Tables.{built_at, cone_reads, own_reads, ops_not}

module _ (R : Routine) (so : Sound R) (w : ℕ) (low : w < size R) (inverts : (wire R w).kind ≡ Not) where
  abbrev a : ℕ
  a = (wire R w).a

  not_cone : (bit : ℕ → ℕ) → bit w ≡ 0 → get_or (built (cone_at R bit) (size R)) w 0 ≡ get_or (built (cone_at R bit) (size R)) a 0
  unfolding cone_at gather
  not_cone bit none =
      let e : ℕ → ℕ = λ v. get_or (built (cone_at R bit) (size R)) v 0 in
      built_at (cone_at R bit) (cone_reads R so.earlier bit) (size R) w low
      ∙ ap₂ (λ (x : ℕ) (vs : List ℕ). bit_or x (gather e vs)) none (ops_not R so.earlier so.within w a inverts refl)
      ∙ or_zero_l (bit_or (e a) 0) ∙ or_zero_r (e a)

  -- it is no share, and no random
  no_share : share_bit R w ≡ 0
  unfolding share_bit operands_of
  no_share = cond_false (2 ^ w) 0 (bool_cases (ltb w (R.S * R.D))
      (λ t. let z : 0 ≡ 1 = ap (λ (k : Kind). length (operands_of k 0 0)) (sym (so.kinds w (ltb_true w (R.S * R.D) t)) ∙ inverts) in absurd (omega arith))
      (λ o. o))

  no_rand : rand_bit R w ≡ 0
  unfolding rand_bit
  no_rand = cond_false (2 ^ rands_before R w) 0 (ap is_rand inverts)

  not_own : get_or (own_rands R (size R)) w 0 ≡ get_or (own_rands R (size R)) a 0
  unfolding own_rands own_at own_of
  not_own =
      let cone : ℕ → ℕ = λ v. get_or (rand_cones R (size R)) v 0 in
      let own : ℕ → ℕ = λ v. get_or (built (own_at R cone) (size R)) v 0 in
      built_at (own_at R cone) (own_reads R so.earlier so.within cone) (size R) w low
      ∙ ap (λ (k : Kind). own_of k (2 ^ rands_before R w) a (wire R w).b cone own) inverts

  -- to the words by which a run is spared, an inverted wire is its operand
  pub not_seen : (z : Seen) → see_wire R z w ≡ see_wire R z a
  unfolding see_wire share_cones rand_cones
  not_seen z = rw (not_cone (share_bit R) no_share, not_cone (rand_bit R) no_rand, not_own) refl

-- The tables of no wires, and with a wire more, each by the words of the earlier wires; and a bit as a table shifts it.
use Rattle.laws.proofs.Values.{shift_one}
use Rattle.std.specs.Prelude.{◌≡◌, true, cond, ltb, length, take, set, ◌%◌}
use Rattle.std.proofs.Math.Path.{refl, sym, ap}
use Rattle.std.proofs.Common.{ap₂, ◌∙◌, inl, inr, add-one, arith, get_or-take, take-suc-set}
use mathlib.Core.List.{List, [], ◌∷◌, ◌++◌}
use Prim.Native.Nat.{ℕ, ◌+◌, ◌*◌, ◌^◌, ◌<◌}
use Rattle.std.specs.Int.Bits.{bit_or, or_zero_r}
use Rattle.std.proofs.Math.ListN.{get_or}
use Rattle.document.specs.Routine.{Routine, size, wire, is_rand, rands_before, routine_of, records_fit, operands_of, operands}
use Rattle.data.proofs.Laws.Tests.{Mem}
use Rattle.data.specs.declared.Kind.{Kind}
use Rattle.data.specs.declared.Kind.TheVariants.{Share, Rand, Pub, Xor, And, Not}
use Rattle.data.specs.declared.Wire.{Wire}
use Rattle.data.specs.declared.Shape.{Shape}
use Rattle.counts.specs.Counting.{record_at, counts_of}
use Rattle.counts.proofs.Laws.Counts.{wire_is, rands_is}
use Rattle.records.proofs.Laws.Fitting.{fit_of}
use Rattle.cones.specs.Tables.{built, share_bit, rand_bit, gather, cone_at, share_cones, rand_cones, own_of, own_at, own_rands}
use Rattle.cones.specs.Making.{gather_of}
use Rattle.cones.proofs.Laws.Tables.{gather_ext}
use Rattle.cones.proofs.Laws.Making.{fit_sound}

-- no bit of it is lost
pub one_shifted : (k : ℕ) → k < 64 → (1 * 2 ^ k) % 2 ^ 64 ≡ 2 ^ k
one_shifted k h = shift_one k h

-- ---- no wires

-- no share cones
pub no_shares : (R : Routine) → [] ≡ share_cones R 0
unfolding share_cones built
no_shares R = refl

-- no random cones
pub no_rands : (R : Routine) → [] ≡ rand_cones R 0
unfolding rand_cones built
no_rands R = refl

-- no own randoms
pub no_own : (R : Routine) → [] ≡ own_rands R 0
unfolding own_rands built
no_own R = refl

-- ---- a wire more

-- the cone's word of a record, from its own bit and the words so far
abbrev pub word_from : ℕ → Wire → List ℕ → ℕ
word_from bit x words = bit_or bit (gather_of x.kind (get_or words x.a 0) (get_or words x.b 0))

-- the own randoms of a record
abbrev pub own_word_from : ℕ → Wire → List ℕ → List ℕ → ℕ
own_word_from bit x cones own = own_of x.kind bit x.a x.b (λ v. get_or cones v 0) (λ v. get_or own v 0)

built_more : (f : (ℕ → ℕ) → ℕ → ℕ) (w : ℕ) (words : List ℕ) (v : ℕ) → w < length words → take w words ≡ built f w
    → v ≡ f (λ u. get_or (built f w) u 0) w → take (w + 1) (set words w v) ≡ built f (w + 1)
unfolding built
built_more f w words v l e q = rw add-one (take-suc-set words w v l ∙ ap₂ {C = List ℕ} (λ xs y. xs ++ (y ∷ [])) e q)

-- the words so far are those of the earlier wires
earlier_word : (f : (ℕ → ℕ) → ℕ → ℕ) (w : ℕ) (words : List ℕ) → take w words ≡ built f w → (v : ℕ) → v < w → get_or words v 0 ≡ get_or (built f w) v 0
earlier_word f w words e v h = sym (get_or-take w words v 0 h) ∙ ap (λ (l : List ℕ). get_or l v 0) e

gather_of_lem : (k : Kind) (a b : ℕ) (e : ℕ → ℕ) → gather_of k (e a) (e b) ≡ gather e (operands_of k a b)
unfolding gather operands_of
gather_of_lem Share a b e = refl
gather_of_lem Rand a b e = refl
gather_of_lem Pub a b e = refl
gather_of_lem Xor a b e = ap (bit_or (e a)) (sym (or_zero_r (e b)))
gather_of_lem And a b e = ap (bit_or (e a)) (sym (or_zero_r (e b)))
gather_of_lem Not a b e = sym (or_zero_r (e a))

own_same : (k : Kind) (a b bit : ℕ) (c c' e e' : ℕ → ℕ) → ((v : ℕ) → Mem v (operands_of k a b) → c v ≡ c' v) → ((v : ℕ) → Mem v (operands_of k a b) → e v ≡ e' v)
    → own_of k bit a b c e ≡ own_of k bit a b c' e'
unfolding own_of operands_of
own_same Share a b bit c c' e e' g h = refl
own_same Rand a b bit c c' e e' g h = refl
own_same Pub a b bit c c' e e' g h = refl
own_same Xor a b bit c c' e e' g h = rw (g a (inl refl), g b (inr (inl refl)), h a (inl refl), h b (inr (inl refl))) refl
own_same And a b bit c c' e e' g h = refl
own_same Not a b bit c c' e e' g h = h a (inl refl)

module _ (σ : Shape) (ws : List Wire) (fit : records_fit σ ws ≡ true) (w : ℕ) (in-n : w < σ.n) where
  abbrev R : Routine
  R = routine_of σ ws

  cone_is : (bit : ℕ → ℕ) (words : List ℕ) → take w words ≡ built (cone_at R bit) w
      → word_from (bit w) (record_at ws w) words ≡ cone_at R bit (λ u. get_or (built (cone_at R bit) w) u 0) w
  unfolding cone_at operands
  cone_is bit words e =
      ap (λ (x : Wire). bit_or (bit w) (gather_of x.kind (get_or words x.a 0) (get_or words x.b 0))) (sym (wire_is σ ws w in-n))
      ∙ ap (bit_or (bit w)) (gather_of_lem (wire R w).kind (wire R w).a (wire R w).b (λ v. get_or words v 0)
      ∙ gather_ext (λ v. get_or words v 0) (λ v. get_or (built (cone_at R bit) w) v 0) (operands_of (wire R w).kind (wire R w).a (wire R w).b)
      (λ v m. earlier_word (cone_at R bit) w words e v ((fit_sound σ ws fit).earlier w v m)))

  -- the share cones with a wire more
  pub share_turn : (words : List ℕ) (bit v : ℕ) → w < length words → take w words ≡ share_cones R w → bit ≡ share_bit R w → v ≡ word_from bit (record_at ws w) words
      → take (w + 1) (set words w v) ≡ share_cones R (w + 1)
  unfolding share_cones
  share_turn words bit v l e p q = built_more (cone_at R (share_bit R)) w words v l e (q ∙ ap (λ (b : ℕ). word_from b (record_at ws w) words) p
      ∙ cone_is (share_bit R) words e)

  -- a wire's bit among the shares
  pub share_bit_lem : cond (ltb w (σ.s * σ.d)) (2 ^ w) 0 ≡ share_bit R w
  unfolding share_bit
  share_bit_lem = refl

  -- the random cones with a wire more
  pub rand_turn : (words : List ℕ) (bit v : ℕ) → w < length words → take w words ≡ rand_cones R w → bit ≡ rand_bit R w → v ≡ word_from bit (record_at ws w) words
      → take (w + 1) (set words w v) ≡ rand_cones R (w + 1)
  unfolding rand_cones
  rand_turn words bit v l e p q = built_more (cone_at R (rand_bit R)) w words v l e (q ∙ ap (λ (b : ℕ). word_from b (record_at ws w) words) p
      ∙ cone_is (rand_bit R) words e)

  -- a wire's bit among the randoms
  pub rand_bit_lem : (j : ℕ) → j ≡ (counts_of w ws).rands → cond (is_rand (record_at ws w).kind) (2 ^ j) 0 ≡ rand_bit R w
  unfolding rand_bit
  rand_bit_lem j e = rw (wire_is σ ws w in-n, e, rands_is σ ws w (omega arith)) refl

  -- the own randoms with a wire more
  pub own_turn : (cones words : List ℕ) (j v : ℕ) → w < length words → take σ.n cones ≡ rand_cones R σ.n → take w words ≡ own_rands R w
      → j ≡ (counts_of w ws).rands
      → v ≡ own_word_from (2 ^ j) (record_at ws w) cones words → take (w + 1) (set words w v) ≡ own_rands R (w + 1)
  unfolding own_rands own_at operands
  own_turn cones words j v l t e p q =
      let so = fit_sound σ ws fit in
      let sized : size R ≡ σ.n = (fit_of σ ws fit).sized in
      let cone : ℕ → ℕ = λ v. get_or (rand_cones R (size R)) v 0 in
      let i : j ≡ rands_before R w = p ∙ sym (rands_is σ ws w (omega arith)) in
      built_more (own_at R cone) w words v l e
      (q ∙ ap (λ (b : ℕ). own_of (record_at ws w).kind (2 ^ b) (record_at ws w).a (record_at ws w).b (λ v. get_or cones v 0) (λ v. get_or words v 0)) i
      ∙ ap (λ (x : Wire). own_of x.kind (2 ^ rands_before R w) x.a x.b (λ v. get_or cones v 0) (λ v. get_or words v 0)) (sym (wire_is σ ws w in-n))
      ∙ own_same (wire R w).kind (wire R w).a (wire R w).b (2 ^ rands_before R w) (λ v. get_or cones v 0) cone (λ v. get_or words v 0)
      (λ v. get_or (built (own_at R cone) w) v 0)
      (λ v m. let h = so.earlier w v m in
      sym (get_or-take σ.n cones v 0 (omega arith)) ∙ ap (λ (l : List ℕ). get_or l v 0) t ∙ ap (λ (k : ℕ). get_or (rand_cones R k) v 0) (sym sized))
      (λ v m. earlier_word (own_at R cone) w words e v (so.earlier w v m)))

-- A printed line `plain t pass c` says what it reads: the text was accepted, and the plain judgement passes at t with c.
use Rattle.std.specs.Prelude.{◌≡◌, true, ◌⊎◌, leb}
use Rattle.std.proofs.Math.Path.{refl, ap}
use Rattle.std.proofs.Common.{sym, ◌∙◌, subst}
use Rattle.std.proofs.Math.Logic.{inl, inr}
use mathlib.Core.List.{List, [], ◌∷◌, ◌++◌, append-nil}
use Prim.Native.Nat.{ℕ, zero, suc, ◌<◌}
use native.Mathlib.Omega.{arith}
use Rattle.std.proofs.Math.ListN.{get_or}
use Rattle.data.specs.Basics.{each, Among}
use Rattle.document.specs.Routine.{Routine, size}
use Rattle.document.specs.Lines.{cut, join, lf, digit_zero}
use Rattle.document.specs.Reading.{reading, routine_in}
use Rattle.data.specs.ProbeSets.{held}
use Rattle.document.specs.Judgements.{plain, strong, sets_judged, judged}
use Rattle.data.specs.Refusals.{number_of}
use Rattle.document.specs.Desk.{printed, space, plain_word, strong_word, pass_word, refused_word, printed_line, verdict_fields, answer_line}
use Rattle.document.specs.Desk.{order_lines, routine_lines, text_lines, desk_prints, HasLine}
use Rattle.document.proofs.Laws.Cuts.{frees}
use Rattle.document.proofs.Laws.Sound.{sound}
use Rattle.document.proofs.Laws.Sets.{in_order_below}
use Rattle.document.proofs.Laws.Judging.{pass_exactly, passed_has, order_below}
use Rattle.document.proofs.Laws.Printed.{printed_once, counted_free, answer_free, space_low, lf_low, fields_same, line_cut, line_among}
use Rattle.data.specs.Refusals.{Outcome}
use Rattle.std.specs.Prelude.{Ok, Err}
use Rattle.data.specs.declared.Read.{Read}
use Rattle.data.specs.declared.Verdict.{Verdict}
use Rattle.data.specs.declared.Verdict.TheVariants as Says
use Rattle.data.specs.declared.Judged.{Judged}

module _ (t c : ℕ) where
  -- the fields of the line, and its bytes but the LF
  abbrev pub pass_fields : List (List ℕ)
  pass_fields = plain_word ∷ printed t ∷ pass_word ∷ printed c ∷ []

  abbrev pass_bytes : List ℕ
  pass_bytes = join space pass_fields

  pass_free : (s : ℕ) → s < digit_zero → frees s pass_fields ≡ true
  unfolding each verdict_fields
  pass_free s low = answer_free s low plain_word t (Says.Pass c) [] refl

  -- what the line of an answer at order k says, where it is this line
  record Told (word : List ℕ) (k : ℕ) (v : Verdict) : Type 0 where
    same_word : plain_word ≡ word
    same_order : printed t ≡ printed k
    count : ℕ
    passes : v ≡ Says.Pass count
    same_count : printed c ≡ printed count

  -- a plain answer of the routine's says so
  record Shown (R : Routine) : Type 0 where
    order : ℕ
    line : Told plain_word order (judged plain R order).verdict

  -- `pass` is neither `open` nor `refused`, so where the fields are the same the verdict is a pass
  told : (word : List ℕ) (k : ℕ) (v : Verdict) (ps : List ℕ) → pass_fields ≡ word ∷ printed k ∷ verdict_fields v ps → Told word k v
  unfolding verdict_fields
  told word k (Says.Pass d) ps e = record {
    same_word = ap (λ (f : List (List ℕ)). get_or f 0 []) e;
    same_order = ap (λ (f : List (List ℕ)). get_or f 1 []) e;
    count = d;
    passes = refl;
    same_count = ap (λ (f : List (List ℕ)). get_or f 3 []) e;
  }
  told word k (Says.Open d) ps e = let z = ap (λ (f : List (List ℕ)). get_or (get_or f 2 []) 0 0) e in absurd (omega arith)
  told word k (Says.Refused f) ps e = let z = ap (λ (f : List (List ℕ)). get_or (get_or f 2 []) 0 0) e in absurd (omega arith)

  -- it is not the nothing that stands behind the last LF
  not_empty : pass_bytes ≡ [] → ⊥
  unfolding join
  not_empty e = let z = ap (λ (v : List ℕ). get_or v 0 0) e in omega arith

  -- where it is printed, it is the first line or stands behind that
  first_or_later : (f : List ℕ) (fs : List (List ℕ)) (rest : List ℕ) → ((s : ℕ) → s < digit_zero → frees s (f ∷ fs) ≡ true)
      → Among pass_bytes (cut lf (printed_line (f ∷ fs) ++ rest)) → (pass_fields ≡ f ∷ fs) ⊎ Among pass_bytes (cut lf rest)
  first_or_later f fs rest w h =
      elim (subst (Among pass_bytes) (line_cut (f ∷ fs) rest (w lf lf_low)) h) [
        | inl e ↦ inl (fields_same _ _ f fs (pass_free space space_low) (w space space_low) e)
        | inr later ↦ inr later
      ]

  -- the same of the line of an answer
  answer_or_later : (word : List ℕ) (k : ℕ) (answer : Judged) (rest : List ℕ) → each (leb digit_zero) word ≡ true
      → Among pass_bytes (cut lf (answer_line word k answer ++ rest)) → Told word k answer.verdict ⊎ Among pass_bytes (cut lf rest)
  unfolding answer_line
  answer_or_later word k answer rest w h =
      elim (first_or_later word (printed k ∷ verdict_fields answer.verdict (held answer.set)) rest
      (λ s low. answer_free s low word k answer.verdict (held answer.set) w) h) [
        | inl e ↦ inl (told word k answer.verdict (held answer.set) e)
        | inr later ↦ inr later
      ]

  -- `plain` is not `strong`, so of the lines of the orders it is a plain one
  among_orders : (R : Routine) (m k : ℕ) → Among pass_bytes (cut lf (order_lines R m k)) → Shown R
  unfolding order_lines cut each
  among_orders R zero k (inl e) = absurd (not_empty e)
  among_orders R zero k (inr h) = absurd h
  among_orders R (suc m) k h =
      elim (answer_or_later plain_word k (judged plain R k) (answer_line strong_word k (judged strong R k) ++ order_lines R m (suc k)) refl h) [
        | inl s ↦ record { order = k; line = s }
        | inr h' ↦ elim (answer_or_later strong_word k (judged strong R k) (order_lines R m (suc k)) refl h') [
          | inl s ↦ (let z = ap (λ (v : List ℕ). get_or v 0 0) s.same_word in absurd (omega arith))
          | inr later ↦ among_orders R m (suc k) later
        ]
      ]

  -- `plain` is not `refused`, so it is no line of a refused text
  among_printed : (o : Outcome) (r : Read) → Among pass_bytes (cut lf (text_lines o r)) → (o ≡ Ok tt) × Shown (routine_in r.listing)
  unfolding text_lines routine_lines cut each
  among_printed (Ok u) r h = (refl, among_orders (routine_in r.listing) _ 1 h)
  among_printed (Err f) r h =
      elim (first_or_later refused_word (printed (number_of f) ∷ printed r.line ∷ []) []
      (λ s low. counted_free s low refused_word (number_of f) (r.line ∷ []) refl)
      (subst (λ (v : List ℕ). Among pass_bytes (cut lf v)) (sym (append-nil (text_lines (Err f) r))) h)) [
        | inl e ↦ (let z = ap (λ (f : List (List ℕ)). get_or (get_or f 0 []) 0 0) e in absurd (omega arith))
        | inr behind ↦ elim behind [ inl e ↦ absurd (not_empty e) | inr none ↦ absurd none ]
      ]

  -- so where the desk prints it, the text was accepted
  shown : (text : List ℕ) → HasLine (printed_line pass_fields) (desk_prints text)
      → ((reading text).outcome ≡ Ok tt) × Shown (routine_in (reading text).listing)
  unfolding desk_prints
  shown text l = among_printed (reading text).outcome (reading text) (line_among pass_fields _ (pass_free lf lf_low) l)

  -- and the plain judgement passes at t with c: an order has one digit, and a count of sets at most nineteen
  exact : (R : Routine) → Shown R → (judged plain R t).verdict ≡ Says.Pass c
  unfolding sets_judged
  exact R s =
      let l = s.line in
      let p = passed_has plain R s.order l.count l.passes in
      let o = order_below R s.order p.order in
      let n = ((pass_exactly plain R s.order l.count).0 p.says).1 in
      let few = in_order_below s.order (size R) o.1 (sound R p.good).few in
      let order = printed_once s.order t (omega (arith, o.1)) (sym l.same_order) in
      let count = printed_once l.count c (omega (arith, o.1)) (sym l.same_count) in
      ap (λ (k : ℕ). (judged plain R k).verdict) (sym order) ∙ l.passes ∙ ap Says.Pass count

  pub printed_pass : (text : List ℕ) → HasLine (printed_line pass_fields) (desk_prints text)
      → ((reading text).outcome ≡ Ok tt) × ((judged plain (routine_in (reading text).listing) t).verdict ≡ Says.Pass c)
  printed_pass text h = let s = shown text h in (s.0, exact (routine_in (reading text).listing) s.1)

-- What a call answers of the first n records by value, it answers of the lent list: 11 also where there are not so many.
use Rattle.std.specs.Prelude.{◌≡◌, refl, true, ◌&&◌, List, ℕ, ◌≤◌, leb, length, take, drop}
use Rattle.std.proofs.Common.{sym, ap, ◌∙◌, mod-eq_of_lt, arith, length-take-le, take_at}
use Rattle.std.proofs.Math.Bool.{false}
use borrow.Author.Tests.{le-leb}
use Rattle.std.proofs.Math.Seq.{length_front}
use Rattle.data.proofs.Laws.Tests.{clash, out_of, bool_cases, and_l, and_r, and_i, leb_true}
use Rattle.document.specs.Judgements.{Judgement, judged, judged_not, set_refusal, needing, needed_not, padding, padded_not}
use Rattle.document.specs.Lent.{lent, lent_written, lent_written_into, lent_ran, lent_ran_into, lent_needing, lent_padding, lent_judged, WritesInto, RunsInto}
use Rattle.document.specs.Reading.{blanks}
use Rattle.document.specs.Routine.{Routine, well_formed, routine_of, records_fit}
use Rattle.document.specs.Running.{ran, ran_into, run_refusal}
use Rattle.document.specs.Writing.{written, written_into, write_refusal}
use Rattle.data.specs.declared.Judged.{Judged}
use Rattle.data.specs.declared.Needed.{Needed}
use Rattle.data.specs.declared.Padded.{Padded}
use Rattle.data.specs.declared.ProbeSet.{ProbeSet}
use Rattle.data.specs.declared.Ran.{Ran}
use Rattle.data.specs.declared.Refusal.TheVariants as No
use Rattle.data.specs.declared.Wire.{Wire}
use Rattle.data.specs.declared.Shape.{Shape}
use Rattle.data.specs.declared.Written.{Written}
use Rattle.records.proofs.Laws.Fitting.{fit_of, share_number}
use Rattle.counts.specs.Counting.{record_at}
use Rattle.copies.specs.First.{fetched, clipped, first_of}
use Rattle.copies.proofs.Laws.Blanks.{length_blanks}

-- ---- the first n records

blank_number : (record_at blanks 1).b ≡ 0
unfolding blanks
blank_number = refl

-- blank records are none that a read gives: wire 1 of every routine is a share with number 1
blanks_unfit : (σ : Shape) → records_fit σ blanks ≡ false
blanks_unfit σ = out_of (λ e.
    let fit = fit_of σ blanks e in
    let low = fit.range.d_low in
    let some = fit.range.shares_some in
    let within = fit.shares_in in
    let z : 0 ≡ 1 = sym blank_number ∙ share_number fit 1 (omega arith) (omega arith) ∙ mod-eq_of_lt {n = 1} {m = σ.d} (omega arith) in
    omega arith)

-- too many for the list, or for an array of 128
few_unfit : (σ : Shape) (list : List Wire) → (leb σ.n (length list) && leb σ.n 128) ≡ false → records_fit σ list ≡ false
few_unfit σ list f = out_of (λ e.
    let fit = fit_of σ list e in
    clash (and_i (leb σ.n (length list)) (leb σ.n 128) (le-leb σ.n (length list) fit.long) (le-leb σ.n 128 fit.few)) f)

module _ (n : ℕ) (list : List Wire) where
  first_all : (leb n (length list) && leb n 128) ≡ true → first_of n list ≡ fetched n list
  unfolding first_of clipped
  first_all t = simp t

  first_none : (leb n (length list) && leb n 128) ≡ false → first_of n list ≡ blanks
  unfolding first_of clipped
  first_none f = simp f

  fetched_long : n ≤ length list → n ≤ 128 → n ≤ length (fetched n list)
  fetched_long h k =
      let few : n ≤ length blanks = rw length_blanks k in
      let e = length_front blanks (take n list) n (length-take-le n list h ∙ sym (length-take-le n blanks few)) in
      rw e few

  fetched_take : n ≤ length list → take n (fetched n list) ≡ take n list
  fetched_take h = take_at (take n list) (drop n blanks) n (length-take-le n list h)

-- ---- an answer that refuses the routines that are not well-formed

module _ {A : Type 0} (σ : Shape) (refused : A) (answer : Routine → A) (refuses : (R : Routine) → well_formed R ≡ false → answer R ≡ refused) where
  pub lent_unfit : (list : List Wire) → records_fit σ list ≡ false → lent σ list refused answer ≡ refused
  unfolding lent records_fit
  lent_unfit list e =
      bool_cases
      (leb σ.n (length list))
      (λ t. let w : well_formed (routine_of σ list) ≡ false = rw t at e in simp t (refuses (routine_of σ list) w))
      (λ f. simp f)

  -- 6.3: only the first n records matter
  pub lent_same : (ws vs : List Wire) → σ.n ≤ length ws → σ.n ≤ length vs → take σ.n ws ≡ take σ.n vs
      → lent σ ws refused answer ≡ lent σ vs refused answer
  unfolding lent
  lent_same ws vs h k e = rw (le-leb σ.n (length ws) h, le-leb σ.n (length vs) k, e)

  pub lent_first : (list : List Wire) → lent σ (first_of σ.n list) refused answer ≡ lent σ list refused answer
  lent_first list =
      bool_cases
      (leb σ.n (length list) && leb σ.n 128)
      (λ t.
      let long = leb_true σ.n (length list) (and_l (leb σ.n (length list)) (leb σ.n 128) t) in
      let few = leb_true σ.n 128 (and_r (leb σ.n (length list)) (leb σ.n 128) t) in
      ap (λ (ws : List Wire). lent σ ws refused answer) (first_all σ.n list t)
      ∙ lent_same (fetched σ.n list) list (fetched_long σ.n list long few) long (fetched_take σ.n list long))
      (λ f.
      ap (λ (ws : List Wire). lent σ ws refused answer) (first_none σ.n list f)
      ∙ lent_unfit blanks (blanks_unfit σ) ∙ sym (lent_unfit list (few_unfit σ list f)))

-- ---- the answers of each call

module _ (σ : Shape) (list : List Wire) (b : List ℕ) where
  pub write_same : {r : Written} {c : List ℕ} → WritesInto σ (first_of σ.n list) b r c → WritesInto σ list b r c
  unfolding lent_written lent_written_into written written_into write_refusal
  write_same p = record {
    said = p.said ∙ lent_first σ _ (λ R. written R b) (λ R e. simp e) list;
    left = p.left ∙ lent_first σ b (λ R. written_into R b) (λ R e. simp e) list;
  }

  pub run_same : (shares randoms publics : ℕ) {r : Ran} {c : List ℕ}
      → RunsInto σ (first_of σ.n list) shares randoms publics b r c → RunsInto σ list shares randoms publics b r c
  unfolding lent_ran lent_ran_into ran ran_into run_refusal
  run_same shares randoms publics p = record {
    said = p.said ∙ lent_first σ _ (λ R. ran R shares randoms publics b) (λ R e. simp e) list;
    left = p.left ∙ lent_first σ b (λ R. ran_into R shares randoms publics b) (λ R e. simp e) list;
  }

module _ (σ : Shape) (list : List Wire) (t : ℕ) (set : ProbeSet) where
  pub needs_same : {r : Needed} → r ≡ lent_needing σ (first_of σ.n list) t set → r ≡ lent_needing σ list t set
  unfolding lent_needing needing set_refusal
  needs_same p = p ∙ lent_first σ (needed_not No.Records) (λ R. needing R t set) (λ R e. simp e) list

  pub pads_same : {r : Padded} → r ≡ lent_padding σ (first_of σ.n list) t set → r ≡ lent_padding σ list t set
  unfolding lent_padding padding set_refusal
  pads_same p = p ∙ lent_first σ (padded_not No.Records) (λ R. padding R t set) (λ R e. simp e) list

pub judge_same : (J : Judgement) (σ : Shape) (list : List Wire) (t : ℕ) {r : Judged}
    → r ≡ lent_judged J σ (first_of σ.n list) t → r ≡ lent_judged J σ list t
unfolding lent_judged judged
judge_same J σ list t p = p ∙ lent_first σ (judged_not No.Records) (λ R. judged J R t) (λ R e. simp e) list

-- The state behind the first line: the routine that has only its input shares.
use Rattle.std.specs.Prelude.{◌≡◌, refl, true, ℕ, zero, suc, ◌-◌, ◌*◌, ◌/◌, ◌%◌, ◌≤◌, ◌<◌, length, get_or, set}
use Rattle.std.proofs.Math.Path.{sym, ap}
use Rattle.std.proofs.Common.{◌∙◌, length-append, lt-ltb, eq-eqb}
use mathlib.Core.List.{List, [], ◌∷◌, ◌++◌}
use native.Mathlib.Omega.{arith}
use Rattle.std.proofs.Math.ListN.{get_or-append}
use Rattle.std.proofs.lemmas.List.{get_or_at}
use Rattle.data.specs.declared.Kind.TheVariants as K
use Rattle.data.specs.declared.Wire.{Wire}
use Rattle.data.specs.declared.Line.{Line}
use Rattle.std.specs.Prelude.{Option, Some}
use Rattle.data.specs.declared.Line.TheVariants as L
use Rattle.data.proofs.Laws.Tests.{and_i, wire_cases}
use Rattle.document.specs.Routine.{Routine, size, wire, blank, is_rand, is_pub, rands_before, pubs_before, outputs, in_range, fits, record_fits_lem}
use Rattle.document.specs.Reading.{blanks, share_records, begun}
use Rattle.document.specs.Writing.{wire_lines, out_lines, lines_of}
use Rattle.roundtrip.proofs.Laws.Tests.{tally_none}
use Rattle.roundtrip.proofs.Laws.Formed.{Formed, ranged_is}
use Rattle.roundtrip.proofs.Laws.Growing.{outs_none}
use Rattle.roundtrip.proofs.Laws.States.{StandsFor, padded, fresh, set_next}

-- 1.15, 1.25: the record of share k, with the number of its secret and its own
abbrev pub share_at : ℕ → ℕ → Wire
share_at d k = fresh K.Share (k / d) (k % d)

-- the first k shares
unfoldable pub shares : ℕ → ℕ → List Wire
shares d zero = []
shares d (suc k) = shares d k ++ share_at d k ∷ []

abbrev pub only_shares : ℕ → ℕ → Routine
only_shares s d = record { S = s; D = d; wires = shares d (s * d) }

pub shares_length : (d k : ℕ) → length (shares d k) ≡ k
unfolding shares
shares_length d zero = refl
shares_length d (suc k) = let z = shares_length d k in omega (arith, length-append (shares d k) (share_at d k ∷ []))

pub shares_at : (d k u : ℕ) → u < k → get_or (shares d k) u blank ≡ share_at d u
unfolding shares
shares_at d zero u h = let w : ⊥ = omega arith in absurd w
shares_at d (suc k) u h = wire_cases u k
    (λ e. get_or_at (shares d k) (share_at d k) [] blank u (shares_length d k ∙ sym e) ∙ ap (share_at d) (sym e))
    (λ n. let l : u < k = omega arith in
    get_or-append (shares d k) (share_at d k ∷ []) blank u (let z = shares_length d k in omega arith) ∙ shares_at d k u l)

records_are : (d k : ℕ) → k ≤ 128 → share_records d k ≡ padded (shares d k)
unfolding share_records shares blanks
records_are d zero h = refl
records_are d (suc k) h =
    ap (λ (vs : List Wire). set vs k (share_at d k)) (records_are d k (omega arith))
    ∙ ap (λ (n : ℕ). set (padded (shares d k)) n (share_at d k)) (sym (shares_length d k))
    ∙ set_next (shares d k) (share_at d k) (let z = shares_length d k in omega arith)

module _ (s d : ℕ) (h : in_range s d ≡ true) where
  few : s * d ≤ 64
  few = (ranged_is s d h).few

  size_is : size (only_shares s d) ≡ s * d
  size_is = shares_length d (s * d)

  pub shares_wire : (u : ℕ) → u < size (only_shares s d) → wire (only_shares s d) u ≡ share_at d u
  shares_wire u l = shares_at d (s * d) u (let z = size_is in omega arith)

  no_rands : rands_before (only_shares s d) (size (only_shares s d)) ≡ 0
  unfolding rands_before
  no_rands = tally_none (size (only_shares s d)) (λ u. is_rand (wire (only_shares s d) u).kind) (λ u l. ap (λ (x : Wire). is_rand x.kind) (shares_wire u l))

  no_pubs : pubs_before (only_shares s d) (size (only_shares s d)) ≡ 0
  unfolding pubs_before
  no_pubs = tally_none (size (only_shares s d)) (λ u. is_pub (wire (only_shares s d) u).kind) (λ u l. ap (λ (x : Wire). is_pub x.kind) (shares_wire u l))

  no_outs : outputs (only_shares s d) ≡ 0
  unfolding outputs
  no_outs = tally_none (size (only_shares s d)) (λ u. (wire (only_shares s d) u).out) (λ u l. ap (λ (x : Wire). x.out) (shares_wire u l))

  pub shares_holds : StandsFor (begun s d) (only_shares s d)
  unfolding begun
  shares_holds = record {
    s_is = refl;
    d_is = refl;
    n_is = sym size_is;
    rands_are = sym no_rands;
    pubs_are = sym no_pubs;
    outs_are = sym no_outs;
    wires_are = records_are d (s * d) (let z = few in omega arith);
  }

  shares_fit : (w : ℕ) → w < size (only_shares s d) → record_fits_lem (only_shares s d) w ≡ true
  unfolding record_fits_lem fits
  shares_fit w l =
      ap (λ (x : Wire). fits (only_shares s d) w x.kind x.a x.b) (shares_wire w l)
      ∙ and_i _ _ (and_i _ _ (lt-ltb w (s * d) (let z = size_is in omega arith)) (eq-eqb (w / d) (w / d) refl)) (eq-eqb (w % d) (w % d) refl)

  pub shares_formed : Formed (only_shares s d)
  shares_formed = record {
    ranged = h;
    shares = let z = size_is in omega arith;
    wide = let z = size_is in let y = few in omega arith;
    few_rands = let z = no_rands in omega arith;
    few_pubs = let z = no_pubs in omega arith;
    few_outs = let z = no_outs in omega arith;
    each_fits = shares_fit;
  }

  -- 1.14, 1.22: no line stands for a share, so the header is the only one
  pub shares_lines : lines_of (only_shares s d) ≡ Some (L.Head s d) ∷ []
  unfolding lines_of wire_lines
  shares_lines =
      let R = only_shares s d in
      let z : size R - s * d ≡ 0 = let y = size_is in omega arith in
      ap (λ (m : ℕ). Some (L.Head s d) ∷ (wire_lines R m (s * d) ++ out_lines R (size R) 0)) z
      ∙ ap (λ (o : List (Option Line)). Some (L.Head s d) ∷ o) (outs_none R (size R) 0 (λ j g l. ap (λ (x : Wire). x.out) (shares_wire j (omega arith))))

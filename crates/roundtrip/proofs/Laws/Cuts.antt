-- Joining the parts of a list of bytes undoes the cutting, and a text is its lines.
use Rattle.std.specs.Prelude.{◌≡◌, refl, Bool, true, false, cond, List, [], ◌∷◌, ◌++◌, ℕ, suc, ◌-◌, ◌<◌, eqb, length, get_or}
use Rattle.std.proofs.Common.{sym, ap, ap₂, ◌∙◌, arith, eqb-true, eq-eqb}
use Rattle.document.specs.Lines.{cut, front, heads, join, lf}
use Rattle.data.proofs.Laws.Tests.{both}
use Rattle.document.proofs.Laws.Cuts.{first_part, later_parts, cut_some, free, frees, cut_first}

-- ---- fields

join_front : (s x : ℕ) (q : List ℕ) (qs : List (List ℕ)) → join s ((x ∷ q) ∷ qs) ≡ x ∷ join s (q ∷ qs)
unfolding join
join_front s x q [] = refl
join_front s x q (r ∷ qs) = refl

pub join_cut : (s : ℕ) (xs : List ℕ) → join s (cut s xs) ≡ xs
unfolding cut front join
join_cut s [] = refl
join_cut s (x ∷ xs) = go (eqb x s) refl (first_part (cut s xs)) (later_parts (cut s xs)) (cut_some s xs) (join_cut s xs) where
  go : (b : Bool) → eqb x s ≡ b → (q : List ℕ) (qs : List (List ℕ)) → cut s xs ≡ q ∷ qs → join s (cut s xs) ≡ xs
      → join s (cond b ([] ∷ cut s xs) (front x (cut s xs))) ≡ x ∷ xs
  go true e q qs c h = ap (λ (l : List (List ℕ)). join s ([] ∷ l)) c ∙ ap₂ (λ (y : ℕ) (ys : List ℕ). y ∷ ys) (sym (eqb-true x s e)) (ap (join s) (sym c) ∙ h)
  go false e q qs c h = ap (λ (l : List (List ℕ)). join s (front x l)) c ∙ join_front s x q qs ∙ ap (λ (ys : List ℕ). x ∷ ys) (ap (join s) (sym c) ∙ h)

-- ---- lines

-- each part with an LF behind it
unfoldable pub ended : List (List ℕ) → List ℕ
ended [] = []
ended (p ∷ ps) = p ++ lf ∷ ended ps

-- what stands behind the last separator
unfoldable pub last_part : List (List ℕ) → List ℕ
last_part [] = []
last_part (p ∷ []) = p
last_part (p ∷ q ∷ ps) = last_part (q ∷ ps)

pub cut_ended : (ps : List (List ℕ)) → frees lf ps ≡ true → cut lf (ended ps) ≡ ps ++ [] ∷ []
unfolding ended frees cut
cut_ended [] h = refl
cut_ended (p ∷ ps) h = let t = both (free lf p) (frees lf ps) h in cut_first lf p (ended ps) t.0 ∙ ap (λ (r : List (List ℕ)). p ∷ r) (cut_ended ps t.1)

heads_last : (ps : List (List ℕ)) → heads (ps ++ [] ∷ []) ≡ ps
unfolding heads
heads_last [] = refl
heads_last (p ∷ []) = refl
heads_last (p ∷ q ∷ ps) = ap (λ (r : List (List ℕ)). p ∷ r) (heads_last (q ∷ ps))

-- the lines of a text made of lines are those
pub heads_ended : (ps : List (List ℕ)) → frees lf ps ≡ true → heads (cut lf (ended ps)) ≡ ps
heads_ended ps h = ap heads (cut_ended ps h) ∙ heads_last ps

ended_heads : (ps : List (List ℕ)) → last_part ps ≡ [] → ended (heads ps) ≡ join lf ps
unfolding ended heads join last_part
ended_heads [] h = refl
ended_heads (p ∷ []) h = sym h
ended_heads (p ∷ q ∷ ps) h = ap (λ (r : List ℕ). p ++ lf ∷ r) (ended_heads (q ∷ ps) h)

-- a text that LF ends has nothing behind its last LF, and a part before it
record Closed (ps : List (List ℕ)) : Type 0 where
  shut : last_part ps ≡ []
  two : later_parts ps ≡ [] → ⊥

closed_more : (p : List ℕ) (ps : List (List ℕ)) → Closed ps → Closed (p ∷ ps)
unfolding last_part later_parts
closed_more p [] c = absurd (c.two refl)
closed_more p (q ∷ ps) c = record { shut = c.shut; two = λ e. let z : ◌≡◌ {A = ℕ} 0 1 = cc in omega arith }

closed_front : (x : ℕ) (ps : List (List ℕ)) → Closed ps → Closed (front x ps)
unfolding last_part later_parts front
closed_front x [] c = c
closed_front x (p ∷ []) c = absurd (c.two refl)
closed_front x (p ∷ q ∷ ps) c = record { shut = c.shut; two = c.two }

cut_closed : (t : List ℕ) → 0 < length t → get_or t (length t - 1) 0 ≡ lf → Closed (cut lf t)
unfolding cut front last_part later_parts
cut_closed [] h e = let w : ⊥ = omega arith in absurd w
cut_closed (x ∷ []) h e = let q : eqb x lf ≡ true = eq-eqb x lf e in rw q (record { shut = refl; two = λ e. let z : ◌≡◌ {A = ℕ} 0 1 = cc in omega arith })
cut_closed (x ∷ y ∷ t) h e = go (eqb x lf) (cut lf (y ∷ t)) (cut_closed (y ∷ t) (omega arith) (ap (λ (n : ℕ). get_or (x ∷ y ∷ t) n 0) s ∙ e)) where
  s : suc (length (y ∷ t) - 1) ≡ length (x ∷ y ∷ t) - 1
  s = omega arith

  go : (b : Bool) (ps : List (List ℕ)) → Closed ps → Closed (cond b ([] ∷ ps) (front x ps))
  go true ps c = closed_more [] ps c
  go false ps c = closed_front x ps c

-- a text that LF ends is its lines, each with its LF
pub ended_text : (t : List ℕ) → 0 < length t → get_or t (length t - 1) 0 ≡ lf → ended (heads (cut lf t)) ≡ t
ended_text t h e = ended_heads (cut lf t) (cut_closed t h e).shut ∙ join_cut lf t

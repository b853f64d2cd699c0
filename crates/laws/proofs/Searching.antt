-- How many sets a search judges, found or not, what is left to be grown then, and the words of the next wire in a table.
use Rattle.std.specs.Prelude.{◌≡◌, Bool, true, false, cond, List, [], ◌∷◌, ◌++◌, map, ℕ, suc, ◌+◌, ◌-◌, ◌≤◌, ◌<◌, length, get_or, take, Ok, Err}
use Rattle.std.proofs.Common.{sym, ap, ◌∙◌, arith, get_or-take}
use Rattle.std.proofs.lemmas.List.{length-map}
use Rattle.data.specs.ProbeSets.{held}
use Rattle.document.specs.Routine.{size}
use Rattle.document.specs.Judgements.{sets_of}
use Rattle.records.proofs.Laws.Fitting.{fit_of}
use Rattle.cones.specs.Seen.{unseen}
use Rattle.growing.specs.declared.Question.{Question}
use Rattle.growing.specs.declared.Grown.{Grown}
use Rattle.growing.specs.Growing.{Searched, found, routine_asked, opens_in, grown_by, Skipped}
use Rattle.searching.specs.Search.{search, grow, Searching}
use Rattle.searching.proofs.Laws.Search.{grow_is}
use Rattle.searching.proofs.Laws.Skipping.{reached}
use Rattle.searching.proofs.Laws.Turns.{passed_over}

-- the sets judged, where none was open and where one was found
abbrev pub judged_count : Searched → ℕ
judged_count (Ok c) = c
judged_count (Err f) = f.count

module _ (opens : List ℕ → Bool) where
  search_count : (k : ℕ) (ss : List (List ℕ)) → judged_count (search opens k ss) ≤ k + length ss
  unfolding search
  search_count k [] = omega arith
  search_count k (ps ∷ later) = go (opens ps) (search_count (suc k) later)
    where
      go : (b : Bool) → judged_count (search opens (suc k) later) ≤ suc k + length later
          → judged_count (cond b (found (suc k) ps) (search opens (suc k) later)) ≤ k + length (ps ∷ later)
      go true h = omega arith
      go false h = omega arith

  -- the sets judged are no more than there are
  pub grow_count : (p m lo : ℕ) (s : List ℕ) (k : ℕ) → judged_count (grow opens p m lo s k) ≤ k + length (sets_of p m lo)
  grow_count p m lo s k =
      let a = search_count k (map (λ r. s ++ r) (sets_of p m lo)) in
      let b = ap judged_count (grow_is opens p m lo s k) in
      let c = length-map (sets_of p m lo) (λ r. s ++ r) in
      omega arith

-- where the wires up to r are passed over and x is found with wire r, an open set or none: the set can be grown further without wire r, from the sets judged
pub turn_rest : {q : Question} {places from : ℕ} {g : Grown} {count r : ℕ} → Searching q places from g count
    → Skipped places from q.listing.now.shape.n q.cones.now g.cone r → 0 < places → r < q.listing.now.shape.n → (more : Grown)
    → more ≡ grown_by g r (get_or q.cones.now r unseen) → (x : Searched)
    → x ≡ grow (opens_in q) (places - 1) (q.listing.now.shape.n - (r + 1)) (r + 1) (held more.set) (count + (r - from))
    → Searching q places (r + 1) g (judged_count x)
turn_rest {q} {places} {from} {g} {count} {r} S k h l more m x e =
    let a = ap judged_count e in
    let b = grow_count (opens_in q) (places - 1) (q.listing.now.shape.n - (r + 1)) (r + 1) (held more.set) (count + (r - from)) in
    passed_over (reached S k) h l (judged_count x) (omega arith)

-- the words of the next wire are the tables'
pub table_at : (q : Question) (from : ℕ) (words : List ℕ) (cones : ℕ → List ℕ) → take q.listing.now.shape.n words ≡ cones q.listing.now.shape.n
    → from < q.listing.now.shape.n → get_or words from 0 ≡ get_or (cones (size (routine_asked q))) from 0
table_at q from words cones e h =
    sym (get_or-take q.listing.now.shape.n words from 0 h) ∙ ap (λ (l : List ℕ). get_or l from 0) e
    ∙ ap (λ (k : ℕ). get_or (cones k) from 0) (sym (fit_of q.listing.now.shape q.listing.now.wires q.fits).sized)

-- What is proved of the definitions (docs/SPECIFICATION.md); each theorem is proved by citing the laws.
use Rattle.std.specs.Prelude.{◌≡◌, refl, true, false, not, ◌↔◌, List, [], ◌∷◌, ◌++◌, ℕ, ◌+◌, ◌*◌, ◌-◌, ◌^◌, ◌≤◌, ◌<◌, length, take, ltb, leb}
use Rattle.std.proofs.Common.{sym, ap, ◌∙◌, subst, arith}
use Rattle.data.specs.Basics.{at, elem, each, Among, Once}
use Rattle.document.specs.Routine.{Routine, size, wire, is_rand, rands_before, well_formed, routine_of, records_fit}
use Rattle.document.specs.Reading.{reading, routine_in}
use Rattle.document.specs.Running.{bit, value_at}
use Rattle.data.specs.ProbeSets.{set_of, WireSet}
use Rattle.document.specs.Padding.{probed, first_leaves, live, pads, steps, padded_wires, leaves_after, last_leaves, live_at_end, Allowed, Stuck, RuleRun}
use Rattle.document.specs.Judgements.{Judgement, plain, inner, strong, judgement_of, is_open, sets_in_order, sets_judged, opened, order_fits, judged_not, judged}
use Rattle.document.specs.Judgements.{Ordered, NoneOpen, FirstOpen}
use Rattle.document.specs.Starts.{drawings, Start, starts, pattern_count, draw_count, upd, count_after, OneToOne, Small, IsStart, FixDraws, FewFixDraws}
use Rattle.document.specs.Worth.{KeepsSecrets, PassesPlain, PassesStrong}
use Rattle.document.specs.Lent.{lent_judged}
use Rattle.document.specs.Desk.{desk_prints, pass_line, HasLine}
use Rattle.document.proofs.Examples.{Hold, claims, cases, shortcuts, no_shortcut, inversions, inverted}
use Rattle.data.proofs.Laws.Tests.{both, and_i, not_t, leb_true, cond_true, cond_false, elem→, elem←}
use Rattle.document.proofs.Laws.Values.{bit_lawful}
use Rattle.document.proofs.Laws.Values as Values
use Rattle.document.proofs.Laws.Sound.{is_other, shares_two, sound}
use Rattle.document.proofs.Laws.Needed.{asc_low, watch_same, needed_mono, lower}
use Rattle.document.proofs.Laws.Steps.{run_allowed, run_ends}
use Rattle.document.proofs.Laws.Orders.{one_run, step_count}
use Rattle.document.proofs.Laws.Orders as Orders
use Rattle.document.proofs.Laws.Sets.{asc, wire_set, sets→, sets←, sets_ordered}
use Rattle.document.proofs.Laws.Judging.{pass_exactly, open_has, open_is, passed_has, judged_is, order_below, lower_fits, closed_exactly, plain_within}
use Rattle.document.proofs.Laws.Judging.{lent_passed}
use Rattle.document.proofs.Laws.Strong.{strong_plain, strong_lower}
use Rattle.document.proofs.Laws.Starts as Starts
use Rattle.document.proofs.Laws.Observing as Observing
use Rattle.document.proofs.Laws.Secrecy as Secrecy
use Rattle.document.proofs.Laws.Draws as Draws
use Rattle.document.proofs.Laws.Printed.{cut_same}
use Rattle.document.proofs.Laws.Worth.{printed_pass}
use Rattle.data.specs.declared.Refusal.TheVariants as No
use Rattle.std.specs.Prelude.{Ok}
use Rattle.data.specs.declared.Verdict.TheVariants as Says
use Rattle.data.specs.declared.Step.{Step}
use Rattle.data.specs.declared.Which.TheVariants as Ask
use Rattle.data.specs.declared.Wire.{Wire}
use Rattle.data.specs.declared.Shape.{Shape}
use Rattle.data.specs.declared.Judged.{Judged}

-- ---- the examples

-- 10.3 to 10.14: (a) to (j)
pub examples : Hold claims
examples = cases

-- 10.20, 10.22, 10.25, 10.26: the shortcuts are not taken
pub no_shortcuts : Hold shortcuts
no_shortcuts = no_shortcut

-- 10.23, 10.34 to 10.40: an inverted random, and what is no such thing
pub inverted_randoms : Hold inversions
inverted_randoms = inverted

-- ---- demand 2: the padding rule

module _ (R : Routine) (good : well_formed R ≡ true) where
  -- 3.22: a list of steps is the run of the rule exactly when it is the one that is computed
  pub steps_are_run : (ps : List ℕ) (ss : List Step) → RuleRun R (probed ps) (first_leaves R) ss ↔ (ss ≡ steps R ps)
  steps_are_run ps ss =
      let own = Orders.steps_run R (sound R good) ps in
      (λ run. one_run R (probed ps) (first_leaves R) ss (steps R ps) run own, λ e. subst (RuleRun R (probed ps) (first_leaves R)) (sym e) own)

  -- 3.22: so its steps are allowed, no step is left at their end, and there are at most n − S-as-D of them
  pub padding_ends : (ps : List ℕ)
      → Allowed R (probed ps) (first_leaves R) (steps R ps)
      × Stuck R (probed ps) (last_leaves R ps)
      × (R.S * R.D + length (steps R ps) ≤ size R)
  unfolding last_leaves
  padding_ends ps =
      let own = Orders.steps_run R (sound R good) ps in (
        run_allowed R (probed ps) (first_leaves R) (steps R ps) own,
        run_ends R (probed ps) (first_leaves R) (steps R ps) own,
        step_count R (sound R good) ps,
      )

  -- of allowed steps, in whatever order, no two have the same w, and each w is one of the n wires, is no share and is no random
  pub steps_apart : (ps : List ℕ) (ss : List Step) → Allowed R (probed ps) (first_leaves R) ss
      → Once (padded_wires ss)
      × ((w : ℕ) → Among w (padded_wires ss) → (w < size R) × (R.S * R.D ≤ w) × (is_rand (wire R w).kind ≡ false))
  unfolding is_other
  steps_apart ps ss a = (
    Orders.steps_apart R (sound R good) ps ss a,
    λ w m. let z = Orders.steps_others R (sound R good) ps ss a w m in
        let b = both (leb (R.S * R.D) w) (not (is_rand (wire R w).kind)) z.1 in
        (z.0, leb_true (R.S * R.D) w b.0, not_t (is_rand (wire R w).kind) b.1),
  )

  -- so with the shares and the randoms they are at most as many as the wires; and at most 126
  pub steps_few : (ps : List ℕ) (ss : List Step) → Allowed R (probed ps) (first_leaves R) ss
      → (R.S * R.D + rands_before R (size R) + length ss ≤ size R) × (length ss ≤ 126)
  steps_few ps ss a =
      let few = Orders.steps_few R (sound R good) ps ss a in
      let shares = shares_two R (sound R good) in
      (few, let n = (sound R good).few in omega arith)

  -- 3.24: allowed steps in any order, made until none is left, end with the live wires of the rule
  pub any_order : (ps : List ℕ) (ss : List Step) → Allowed R (probed ps) (first_leaves R) ss → Stuck R (probed ps) (leaves_after ss (first_leaves R))
      → (v : ℕ) → at (live R (probed ps) (leaves_after ss (first_leaves R))) v ≡ at (live_at_end R ps) v
  unfolding live_at_end last_leaves
  any_order ps ss a s v = Orders.any_order R (sound R good) ps ss (steps R ps) a s (padding_ends ps).0 (padding_ends ps).1 v

  -- 3.25: probing more wires never takes a wire from those live at the end, and so no needed share
  pub more_probes : (ps qs : List ℕ) → WireSet (size R) ps → ((v : ℕ) → elem v ps ≡ true → elem v qs ≡ true)
      → (v : ℕ) → at (live_at_end R ps) v ≡ true → at (live_at_end R qs) v ≡ true
  more_probes ps qs s more v i =
      needed_mono R (sound R good) ps qs (λ u m. elem→ u qs (more u (elem← u ps m))) (λ u. asc_low 0 (size R) ps u (asc (size R) ps s)) v i

-- ---- demand 2: the judgements

-- 5.11: the list has every set of 1 to k wires, and nothing else
pub sets_are : (k n : ℕ) (ps : List ℕ) → Among ps (sets_in_order k n) ↔ (WireSet n ps × (0 < length ps) × (length ps ≤ k))
sets_are k n ps = (λ h. let z = sets→ k n ps h in (wire_set n ps z.0, z.1, z.2), λ s. sets← k n ps (asc n ps s.0) s.1 s.2)

-- 5.11: it has them in the order of 5.9, each once
pub sets_in_order_lem : (k n : ℕ) → Ordered (sets_in_order k n)
sets_in_order_lem = sets_ordered

-- 7.17, 7.21: what is no well-formed routine is refused with 11, whatever the order
pub refused_records : (J : Judgement) (R : Routine) (t : ℕ) → well_formed R ≡ false → judged J R t ≡ judged_not No.Records
unfolding judged
refused_records J R t bad = cond_false _ _ bad

-- 7.17, 7.21: a well-formed routine is refused with 12 at an order that is not allowed
pub refused_order : (J : Judgement) (R : Routine) (t : ℕ) → well_formed R ≡ true → order_fits R t ≡ false → judged J R t ≡ judged_not No.Order
unfolding judged
refused_order J R t good bad = cond_true _ _ good ∙ cond_false _ _ bad

-- 5.19: a judgement passes exactly when no set of its list is open, and its count is then the length of the list
pub passes_exactly : (J : Judgement) (R : Routine) (t c : ℕ) → well_formed R ≡ true → order_fits R t ≡ true
    → ((judged J R t).verdict ≡ Says.Pass c) ↔ (NoneOpen (is_open J R t) (sets_judged J R t) × (c ≡ length (sets_judged J R t)))
passes_exactly J R t c good order = (
  λ e. (pass_exactly J R t c).0 (sym (ap (λ (a : Judged). a.verdict) (judged_is J R t good order)) ∙ e),
  λ p. ap (λ (a : Judged). a.verdict) (judged_is J R t good order) ∙ (pass_exactly J R t c).1 p,
)

-- 5.20: if it is open, the answer has the first open set of the list, and the count is its place
pub open_first : (J : Judgement) (R : Routine) (t c : ℕ) → well_formed R ≡ true → order_fits R t ≡ true → (judged J R t).verdict ≡ Says.Open c
    → (ps : List ℕ) × FirstOpen (is_open J R t) (sets_judged J R t) ps c × ((judged J R t).set ≡ set_of ps)
open_first J R t c good order e =
    let is = judged_is J R t good order in
    let h = open_has J R t c (sym (ap (λ (a : Judged). a.verdict) is) ∙ e) in
    (h.0, h.1, ap (λ (a : Judged). a.set) is ∙ h.2)

-- 5.20: and if the list has a first open set, it is open with that set and its place
pub first_opens : (J : Judgement) (R : Routine) (t c : ℕ) (ps : List ℕ) → well_formed R ≡ true → order_fits R t ≡ true
    → FirstOpen (is_open J R t) (sets_judged J R t) ps c → judged J R t ≡ opened c ps
first_opens J R t c ps good order f = judged_is J R t good order ∙ open_is J R t ps c f

-- ---- the starts

-- 9.2, 9.3: the list has every start of a choice of the secrets, and nothing else
pub starts_are : (R : Routine) (secrets : List ℕ) (s : Start) → Among s (starts bit R secrets) ↔ IsStart bit R secrets s
starts_are R secrets s = Starts.starts_are bit R secrets s

-- 9.3, 9.5: it has each of them once
pub starts_differ : (R : Routine) (secrets : List ℕ) → Once (starts bit R secrets)
starts_differ R secrets = Starts.starts_differ bit R secrets

-- 9.3: every choice of the secrets has 2^(S·(D − 1)) starts for each way to draw the randoms
pub starts_many : (R : Routine) → well_formed R ≡ true → (secrets : List ℕ) → Small 2 secrets
    → length (starts bit R secrets) ≡ 2 ^ (R.S * (R.D - 1) + rands_before R (size R))
starts_many R good secrets h = Starts.starts_many bit bit_lawful R (omega (arith, (sound R good).some_shares)) secrets h

-- 9.27: the list of drawings has every way to draw the randoms, and nothing else
pub drawings_are : (R : Routine) (ρ : List ℕ)
    → Among ρ (drawings bit R) ↔ ((length ρ ≡ rands_before R (size R)) × (each (λ v. ltb v 2) ρ ≡ true))
drawings_are R ρ = Starts.words_are bit (rands_before R (size R)) ρ

-- 9.27: it has each of them once
pub drawings_differ : (R : Routine) → Once (drawings bit R)
drawings_differ R = Starts.words_once bit (rands_before R (size R))

-- ---- demand 3

-- 9.13: a routine that passes the plain judgement of order t passes that of each lower order, down to 1
pub passes_below : (R : Routine) (t c : ℕ) → (judged plain R t).verdict ≡ Says.Pass c
    → (k : ℕ) → 1 ≤ k → k ≤ t → (judged plain R k).verdict ≡ Says.Pass (length (sets_judged plain R k))
passes_below R t c e k some below =
    let p = passed_has plain R t c e in
    let o = order_below R t p.order in
    let so = sound R p.good in
    let w = (plain_within R t).1 ((pass_exactly plain R t c).0 p.says).0 in
    (passes_exactly plain R k (length (sets_judged plain R k)) p.good (lower_fits R k t p.order some below)).1
    ((plain_within R k).0 (lower R so (λ ps. ps) (watch_same R) k t below o.2 w), refl)

-- 9.14, 9.15: where it passes at t, any set of at most t wires shows every pattern, for fixed public bits, from as many starts
-- for one choice of the secrets as for any other
pub shows_nothing : (R : Routine) (t c : ℕ) → (judged plain R t).verdict ≡ Says.Pass c
    → (ps : List ℕ) → WireSet (size R) ps → length ps ≤ t
    → (publics : List ℕ) → Small 2 publics → (pattern secrets secrets' : List ℕ) → Small 2 secrets → Small 2 secrets'
    → pattern_count bit R publics ps pattern secrets ≡ pattern_count bit R publics ps pattern secrets'
shows_nothing R t c e ps s few publics sy pattern secrets secrets' h h' =
    let p = passed_has plain R t c e in
    let o = order_below R t p.order in
    let w = (plain_within R t).1 ((pass_exactly plain R t c).0 p.says).0 in
    Secrecy.same_counts bit bit_lawful R (sound R p.good) (λ qs. qs) (watch_same R) t o.0 o.2 w
    ps (asc (size R) ps s) few publics sy pattern secrets secrets' h h'

-- 9.25: both halves of it
pub pass_keeps : (R : Routine) (t c : ℕ) → (judged plain R t).verdict ≡ Says.Pass c → KeepsSecrets R t
pass_keeps R t c e = record { below = passes_below R t c e; hides = shows_nothing R t c e }

-- 9.25: with the order and the count of a pass
pub pass_worth : (R : Routine) (t c : ℕ) → (judged plain R t).verdict ≡ Says.Pass c → PassesPlain R t c
pass_worth R t c e =
    let p = passed_has plain R t c e in
    record { allowed = p.order; passes = e; counts = ((pass_exactly plain R t c).0 p.says).1; keeps = pass_keeps R t c e }

-- 6.4, 9.25: of what the judging call answers, by value or over a lent list
pub lent_pass_keeps : (σ : Shape) (ws : List Wire) (t c : ℕ) → (lent_judged (judgement_of Ask.Plain) σ ws t).verdict ≡ Says.Pass c
    → (records_fit σ ws ≡ true) × PassesPlain (routine_of σ ws) t c
unfolding records_fit
lent_pass_keeps σ ws t c e =
    let p = lent_passed plain σ ws t c e in
    (and_i _ _ p.0 (passed_has plain (routine_of σ ws) t c p.1).good, pass_worth (routine_of σ ws) t c p.1)

-- 9.26: of what the desk prints: a line `plain t pass c` is printed only of such a routine
pub printed_pass_keeps : (text : List ℕ) (t c : ℕ) → HasLine (pass_line t c) (desk_prints text)
    → ((reading text).outcome ≡ Ok tt) × PassesPlain (routine_in (reading text).listing) t c
printed_pass_keeps text t c h = let p = printed_pass t c text h in (p.0, pass_worth (routine_in (reading text).listing) t c p.1)

-- ---- what a step promises

-- 9.34: whatever w is, if its record lets it be padded by r: for any values of the other wires, its value is a one-to-one function of that of r
pub pad_one_to_one : (R : Routine) (w r : ℕ) → elem r (pads R w) ≡ true
    → (shares randoms publics : List ℕ) (values : ℕ → ℕ) → ((v : ℕ) → values v < 2)
    → OneToOne 2 (λ v. value_at bit R shares randoms publics (upd values r v) w)
pad_one_to_one R w r m shares randoms publics values h =
    Values.pad_one_to_one bit bit_lawful R shares randoms publics w r (elem→ r (pads R w) m) values h

-- ---- how often the randoms give a pattern

module _ (R : Routine) (good : well_formed R ≡ true) (ps : List ℕ) (low : (v : ℕ) → elem v ps ≡ true → v < size R) where
  -- 9.37: whatever wires are observed, an allowed step keeps how often each pattern comes
  pub step_keeps_counts : (ss : List Step) (s : Step) → Allowed R (probed ps) (first_leaves R) (ss ++ (s ∷ []))
      → (publics : List ℕ) → Small 2 publics → (pattern shares : List ℕ) → Small 2 shares
      → count_after bit R (ss ++ (s ∷ [])) publics ps pattern shares ≡ count_after bit R ss publics ps pattern shares
  step_keeps_counts = Draws.step_keeps bit bit_lawful R (sound R good) ps (λ v m. low v (elem← v ps m))

  -- 9.37: so after any allowed steps each comes as often as the randoms give it
  pub steps_keep_counts : (ss : List Step) → Allowed R (probed ps) (first_leaves R) ss
      → (publics : List ℕ) → Small 2 publics → (pattern shares : List ℕ) → Small 2 shares
      → count_after bit R ss publics ps pattern shares ≡ draw_count bit R publics ps pattern shares
  steps_keep_counts ss a publics sy pattern shares sx =
      Observing.count_kept bit bit_lawful R (sound R good) publics ps (λ v m. low v (elem← v ps m)) pattern ss a sy shares sx

  -- 9.29: whatever wires are observed, and after any allowed steps: the shares that are still live and the publics fix it
  pub live_fix : (ss : List Step) → Allowed R (probed ps) (first_leaves R) ss
      → FixDraws bit R (at (live R (probed ps) (leaves_after ss (first_leaves R)))) ps
  live_fix = Draws.live_fix bit bit_lawful R (sound R good) ps (λ v m. low v (elem← v ps m))

  -- 9.29: so do the needed shares
  pub needed_fix : FixDraws bit R (at (live_at_end R ps)) ps
  needed_fix = Draws.needed_fix bit bit_lawful R (sound R good) ps (λ v m. low v (elem← v ps m))

-- 9.30: where a judgement passes, of whatever it observes of a set at most as many shares of each secret as its bound do so
pub pass_fixes : (J : Judgement) (R : Routine) (t c : ℕ) → (judged J R t).verdict ≡ Says.Pass c
    → (ps : List ℕ) → Among ps (sets_judged J R t) → ((v : ℕ) → elem v (J.observes R ps) ≡ true → v < size R)
    → FewFixDraws bit R (J.bound R t ps) (J.observes R ps)
pass_fixes J R t c e ps h low =
    let p = passed_has J R t c e in
    let closed = ((pass_exactly J R t c).0 p.says).0 ps h in
    Draws.few_fix bit bit_lawful R (sound R p.good) (J.observes R ps) (λ v m. low v (elem← v (J.observes R ps) m))
    (J.bound R t ps) ((closed_exactly J R t ps).0 closed)

-- ---- what a strong pass means

-- 9.31: a routine that passes the strong judgement of order t passes the plain one, after as many sets
pub strong_passes_plain : (R : Routine) (t c : ℕ) → (judged strong R t).verdict ≡ Says.Pass c → (judged plain R t).verdict ≡ Says.Pass c
unfolding sets_judged
strong_passes_plain R t c e =
    let p = passed_has strong R t c e in
    let s = (pass_exactly strong R t c).0 p.says in
    (passes_exactly plain R t c p.good p.order).1 (strong_plain R t s.0, s.1)

-- 9.32: it passes the strong judgement of each lower order, down to 1
pub strong_passes_below : (R : Routine) (t c : ℕ) → (judged strong R t).verdict ≡ Says.Pass c
    → (k : ℕ) → 1 ≤ k → k ≤ t → (judged strong R k).verdict ≡ Says.Pass (length (sets_judged strong R k))
strong_passes_below R t c e k some below =
    let p = passed_has strong R t c e in
    (passes_exactly strong R k (length (sets_judged strong R k)) p.good (lower_fits R k t p.order some below)).1
    (strong_lower R t ((pass_exactly strong R t c).0 p.says).0 k below, refl)

-- 9.33: of a set of i inner wires and o outputs, i + o from 1 to t, at most i shares of each secret and the publics fix how often the randoms
-- give each pattern
pub strong_fixes : (R : Routine) (t c : ℕ) → (judged strong R t).verdict ≡ Says.Pass c
    → (ps : List ℕ) → WireSet (size R) ps → 0 < length ps → length ps ≤ t → FewFixDraws bit R (inner R ps) ps
unfolding sets_judged
strong_fixes R t c e ps s some few = pass_fixes strong R t c e ps (sets← t (size R) ps (asc (size R) ps s) some few)
    (λ v m. asc_low 0 (size R) ps v (asc (size R) ps s) (elem→ v ps m))

-- 9.31 to 9.33: all of it
pub strong_worth : (R : Routine) (t c : ℕ) → (judged strong R t).verdict ≡ Says.Pass c → PassesStrong R t c
strong_worth R t c e = record {
  passes = e;
  plainly = pass_worth R t c (strong_passes_plain R t c e);
  below = strong_passes_below R t c e;
  fixes = strong_fixes R t c e;
}

-- ---- the desk's input

-- 8.16: a text cut off behind 4,097 bytes has the same lines as the whole
pub cut_prints_same : (text : List ℕ) → desk_prints (take 4097 text) ≡ desk_prints text
cut_prints_same = cut_same

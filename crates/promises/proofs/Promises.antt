-- What is promised, in the order of the demands (9.8 to 9.16 of docs/SPECIFICATION.md), each theorem named where it is proved. A call's theorem
-- that it has one answer is named CALL-once; the contract that it speaks of stands over the call in its crate's src/, and docs/PROMISES.md has
-- the runs and the must-fail edits beside it.

-- ---- demand 1: every input has a definite answer. No call has a `requires`, each ends, and two answers that its contract allows are equal,
-- with what is left in the lent list or buffer.

-- reading, by value and into a lent list
pub use Rattle.reader.proofs.Laws.Once.{read_once}
pub use Rattle.lent.proofs.Laws.Once.{read_into_once}
-- the test behind refusal 11, writing and running: of any list of records, by value or lent
pub use Rattle.records.proofs.Laws.Once.{fit_once}
pub use Rattle.writer.proofs.Laws.Once.{write_once}
pub use Rattle.runner.proofs.Laws.Once.{run_once}
-- probe sets, the two calls on one set and the judging call: of any list of records, by value or lent
pub use Rattle.data.proofs.Laws.Once.{empty_once, add_once}
pub use Rattle.rule.proofs.Laws.Once.{needs_once, pads_once}
pub use Rattle.judge.proofs.Laws.Once.{judge_once}
-- what the desk program prints
pub use Rattle.report.proofs.Laws.Once.{report_once}
-- the refusals are numbered as their table has them, and each call's number is that of the first test that fails
pub use Rattle.data.proofs.Laws.Numbers.{numbers_are, numbers_differ}
pub use Rattle.document.proofs.RefusalTheorems.{reading_number, no_header_number, header_number, form_number, wire_number, out_number, read_number}
pub use Rattle.document.proofs.RefusalTheorems.{write_number, run_number, add_number, needs_number, pads_number, judge_number}
-- a refused call gives nothing, and leaves what it was lent as it was
pub use Rattle.document.proofs.RefusalTheorems.{refused_reading, refused_read, refused_write, refused_run, refused_add}
pub use Rattle.document.proofs.RefusalTheorems.{refused_needs, refused_pads, refused_judge, not_open_empty, told_pass, told_open}
-- ---- demand 2: each answer is the specification's own

-- writing what was read gives the same text, and reading what was written the same routine; no routine has two texts, and no text two routines
pub use Rattle.roundtrip.proofs.TextTheorems.{text_again, read_written, written_whole, one_text, one_routine, text_length_lem}
-- refusal 11 is given exactly to what no text reads as
pub use Rattle.roundtrip.proofs.TextTheorems.{readable, records_readable}
-- the worked examples, and the shortcuts that are not taken
pub use Rattle.document.proofs.Theorems.{examples, no_shortcuts}
pub use Rattle.document.proofs.Examples.{lines, bounds, values}
-- the steps are the run of the rule, which goes on to its end; no order of steps changes that end, and a probe more never frees a share
pub use Rattle.document.proofs.Theorems.{steps_are_run, padding_ends, any_order, more_probes}
-- the sets judged are all of them, in order and once each; a judgement passes exactly when none is open, and else has the first open one and its place
pub use Rattle.document.proofs.Theorems.{sets_are, sets_in_order_lem, refused_records, refused_order, passes_exactly, open_first, first_opens}
-- no impostor meets a contract
pub use Rattle.impostors.proofs.Impostors.{read_not_one, read_count, write_not_one, write_count, write_nothing, run_not_one, run_count, run_values}
pub use Rattle.impostors.proofs.Impostors.{needs_not_one, needs_not_always, needs_no_step, needs_first_step}
pub use Rattle.impostors.proofs.Impostors.{pads_not_one, pads_not_always, pads_steps, pads_only_listed}
pub use Rattle.impostors.proofs.Impostors.{plain_not_one, strong_not_one, plain_not_closed, strong_not_closed, plain_count, strong_count}
-- ---- demand 3: what a plain pass means

-- the starts are every splitting of the secrets with every drawing of the randoms, each once; and counts of single patterns, computed
pub use Rattle.document.proofs.Theorems.{starts_are, starts_differ, starts_many}
pub use Rattle.document.proofs.Examples.{counts}
-- it passes at every lower order
pub use Rattle.document.proofs.Theorems.{passes_below}
-- any two choices of the secrets give each pattern of observed bits from the same number of starts
pub use Rattle.document.proofs.Theorems.{shows_nothing}
-- both, of what a judging call answers, of a printed line `plain t pass c`, and of the bytes that a report gives
pub use Rattle.document.proofs.Theorems.{pass_keeps, pass_worth, lent_pass_keeps, printed_pass_keeps}
pub use Rattle.report.proofs.Laws.Worth.{reported_pass_keeps}
-- what is cut off behind 4,097 bytes changes nothing that is printed; `desk` has this and the one before of what the program writes
pub use Rattle.document.proofs.Theorems.{cut_prints_same}
-- ---- what a strong pass means

-- the drawings are every way to draw the randoms, each once; and how often they give a pattern, computed
pub use Rattle.document.proofs.Theorems.{drawings_are, drawings_differ}
pub use Rattle.document.proofs.Examples.{draws}
-- whatever is observed, the shares live after any allowed steps, and so the needed ones, fix that number with the publics; of a pass, as few as its bound
pub use Rattle.document.proofs.Theorems.{live_fix, needed_fix, pass_fixes}
-- it is a plain pass, and a strong pass of every lower order; and as many shares as a set has inner wires fix how often each pattern comes
pub use Rattle.document.proofs.Theorems.{strong_passes_plain, strong_passes_below, strong_fixes, strong_worth}

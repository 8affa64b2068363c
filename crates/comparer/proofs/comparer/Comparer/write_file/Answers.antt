use Rattle.std.proofs.Common.{◌≡◌, Some, None, Ok, Err, length, sym, ap, subst, ◌∙◌, arith}
use Rattle.std.proofs.lemmas.Result.{err_from_is_err_and}
use Rattle.layout.specs.Contents.{encode}
use Rattle.layout.proofs.Steps.{ok_err}
use Rattle.sheet.specs.Rowed.{shown}
use Rattle.survey.specs.Surveyed.{surveyed}
use Rattle.calls.specs.Refusals.{first_of, answered}
use Rattle.writing.specs.Files.{file_of, file_faults}
use Rattle.writing.proofs.Surveyed.{survey_taken}
use Rattle.comparer.specs.Comparers.{rows_of}
use Rattle.comparer.proofs.Lawfulness.{history_stands, over_some}
use Rattle.comparer.proofs.Unless.{no_fault, a_fault}
use Rattle.comparer.proofs.FileWritten.{names_fault, room_fault, refused_by, written_law, back, filed}
use Rattle.comparer.proofs.comparer.Comparer.write_file.Goals as goal

-- refused for the names or the kinds
pub returns-in_err-check_names-clause-over : goal.returns-in_err-check_names-clause-over
returns-in_err-check_names-clause-over g c = λ s over ranked.
    let names = c.args.names.now in
    let ks = g.T.FileTally.kinds in
    let p = err_from_is_err_and c.from_residual.result c.from_residual.ensures.1 in
    let fault = a_fault (first_of (file_faults c.count.result ks names)) (sym c.check_names.ensures ∙ c.in_err-check_names.was) in
    let here = subst (λ n. first_of (file_faults n ks names) ≡ Some c.in_err-check_names.field-0.0) (c.count.ensures.over s over) fault in
    p.1 ∙ ap Err p.2 ∙ sym (ap (λ o. answered o (length (encode (file_of names ks g.T.FileTally.numbers (surveyed s) (rows_of c.args.self.now))))) (names_fault s.skeleton.words.count ks names (length c.args.out.now) c.in_err-check_names.field-0.0 here))

pub returns-in_err-check_names-clause-without : goal.returns-in_err-check_names-clause-without
returns-in_err-check_names-clause-without g c = λ r without.
    let names = c.args.names.now in
    let ks = g.T.FileTally.kinds in
    let p = err_from_is_err_and c.from_residual.result c.from_residual.ensures.1 in
    let fault = a_fault (first_of (file_faults c.count.result ks names)) (sym c.check_names.ensures ∙ c.in_err-check_names.was) in
    let here = subst (λ n. first_of (file_faults n ks names) ≡ Some c.in_err-check_names.field-0.0) (c.count.ensures.without r without) fault in
    p.1 ∙ ap Err (p.2 ∙ refused_by r.count ks names 0 c.in_err-check_names.field-0.0 r.fault here)

pub returns-in_err-check_names-clause-taken : goal.returns-in_err-check_names-clause-taken
returns-in_err-check_names-clause-taken g c = λ s over es h.
    survey_taken g.T.Tally.group s g.T.FileTally.kinds g.T.FileTally.numbers c.args.names.now (rows_of c.args.self.now) (history_stands g.T.Tally.group s (over_some c.args.self.now s over) es (rows_of c.args.self.now) h)

pub returns-in_err-check_names-clause-back : goal.returns-in_err-check_names-clause-back
returns-in_err-check_names-clause-back g c = λ s over bs d bytes good same offer rows named room.
    back g.T.Tally.group g.T.FileTally.kinds g.T.FileTally.numbers g.T.FileTally.made g.T.FileTally.lossless c.args.self.now s over bs d bytes good same offer rows c.args.names.now named c.args.out.now c.args.out.now
    c.from_residual.result room (returns-in_err-check_names-clause-over g c s over)
    (λ ranked n told. let p = err_from_is_err_and c.from_residual.result c.from_residual.ensures.1 in absurd (ok_err (sym told ∙ p.1)))

-- refused for the room
pub returns-in_err-check_room-clause-over : goal.returns-in_err-check_room-clause-over
returns-in_err-check_room-clause-over g c = λ s over ranked.
    let names = c.args.names.now in
    let ks = g.T.FileTally.kinds in
    let p = err_from_is_err_and c.from_residual-in_err-check_room.result c.from_residual-in_err-check_room.ensures.1 in
    let none = subst (λ n. first_of (file_faults n ks names) ≡ None) (c.count.ensures.over s over) (no_fault (first_of (file_faults c.count.result ks names)) (sym c.check_names.ensures ∙ c.in_ok-check_names.was)) in
    let fault = a_fault _ (sym c.check_room.ensures ∙ c.in_err-check_room.was) in
    p.1 ∙ ap Err p.2 ∙ sym (ap (λ o. answered o (length (encode (file_of names ks g.T.FileTally.numbers (surveyed s) (rows_of c.args.self.now))))) (room_fault s.skeleton.words.count ks names (length c.args.out.now) none ∙ fault))

pub returns-in_err-check_room-clause-law : goal.returns-in_err-check_room-clause-law
returns-in_err-check_room-clause-law g c = λ s over ranked e.
    written_law g.T.Tally.group g.T.FileTally.kinds g.T.FileTally.numbers g.T.FileTally.made g.T.FileTally.lossless c.args.self.now s over c.args.names.now ranked e

pub returns-in_err-check_room-clause-taken : goal.returns-in_err-check_room-clause-taken
returns-in_err-check_room-clause-taken g c = λ s over es h.
    survey_taken g.T.Tally.group s g.T.FileTally.kinds g.T.FileTally.numbers c.args.names.now (rows_of c.args.self.now) (history_stands g.T.Tally.group s (over_some c.args.self.now s over) es (rows_of c.args.self.now) h)

-- written
pub returns-clause-over : goal.returns-clause-over
returns-clause-over g c = λ s over ranked.
    let names = c.args.names.now in
    let ks = g.T.FileTally.kinds in
    let none = subst (λ n. first_of (file_faults n ks names) ≡ None) (c.count.ensures.over s over) (no_fault (first_of (file_faults c.count.result ks names)) (sym c.check_names.ensures ∙ c.in_ok-check_names.was)) in
    let w = filed g.T.Tally.group ks g.T.FileTally.numbers g.T.FileTally.made g.T.FileTally.lossless c.args.self.now s over c.in_ok-desk.desk.now c.in_ok-desk.ensures names (shown c.view.result) c.view.ensures.view c.args.out.now c.write_into.new.out c.write_into.result
    (omega arith) ranked none (no_fault _ (sym c.check_room.ensures ∙ c.in_ok-check_room.was)) c.write_into.ensures in
    w.answer

pub returns-clause-out : goal.returns-clause-out
returns-clause-out g c = λ s over ranked n told.
    let names = c.args.names.now in
    let ks = g.T.FileTally.kinds in
    let none = subst (λ n. first_of (file_faults n ks names) ≡ None) (c.count.ensures.over s over) (no_fault (first_of (file_faults c.count.result ks names)) (sym c.check_names.ensures ∙ c.in_ok-check_names.was)) in
    let w = filed g.T.Tally.group ks g.T.FileTally.numbers g.T.FileTally.made g.T.FileTally.lossless c.args.self.now s over c.in_ok-desk.desk.now c.in_ok-desk.ensures names (shown c.view.result) c.view.ensures.view c.args.out.now c.write_into.new.out c.write_into.result
    (omega arith) ranked none (no_fault _ (sym c.check_room.ensures ∙ c.in_ok-check_room.was)) c.write_into.ensures in
    w.bytes n told

pub returns-clause-law : goal.returns-clause-law
returns-clause-law g c = λ s over ranked e.
    written_law g.T.Tally.group g.T.FileTally.kinds g.T.FileTally.numbers g.T.FileTally.made g.T.FileTally.lossless c.args.self.now s over c.args.names.now ranked e

pub returns-clause-taken : goal.returns-clause-taken
returns-clause-taken g c = λ s over es h.
    survey_taken g.T.Tally.group s g.T.FileTally.kinds g.T.FileTally.numbers c.args.names.now (rows_of c.args.self.now) (history_stands g.T.Tally.group s (over_some c.args.self.now s over) es (rows_of c.args.self.now) h)

pub returns-clause-back : goal.returns-clause-back
returns-clause-back g c = λ s over bs d bytes good same offer rows named room.
    back g.T.Tally.group g.T.FileTally.kinds g.T.FileTally.numbers g.T.FileTally.made g.T.FileTally.lossless c.args.self.now s over bs d bytes good same offer rows c.args.names.now named c.args.out.now c.write_into.new.out
    (Ok c.write_into.result) room (returns-clause-over g c s over) (returns-clause-out g c s over)

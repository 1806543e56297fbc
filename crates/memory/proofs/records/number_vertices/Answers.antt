use Rattle.std.proofs.Common.{◌≡◌, Bool, List, map, sym, refl, ap, ◌∙◌, subst}
use Rattle.std.proofs.lemmas.List.{length-map}
use Rattle.std.proofs.lemmas.Bool.{both_ways, false≢true}
use Rattle.ledger.specs.Gather.{gather, Gatherable}
use Rattle.memory.specs.Shelves.{is_mark, marks_in}
use Rattle.memory.proofs.Gathers.{gatherable, all_stay, noted_gather}
use Rattle.memory.proofs.Marking.{renumbered_now}
use Rattle.memory.proofs.records.number_vertices.Goals as goal
use Rattle.memory.proofs.records.number_vertices.Goals.{then-marks-records-via-then-marks-records, then-marks-records-via-else-marks-records+then-not-all_stay}

pub returns-then-marks-records-clause-answer : goal.returns-then-marks-records-clause-answer
returns-then-marks-records-clause-answer g c =
    let ps = c.args.marks.now in
    let xs = c.args.records.now in
    let unfit : Gatherable (marks_in ps) (map g.T.Record.vertex xs) → ⊥ =
    λ fit. elim c.then-marks-records.branch [
      | then-marks-records-via-then-marks-records w ↦ w.if-marks-records.true (sym (length-map ps is_mark) ∙ fit.numbered ∙ length-map xs g.T.Record.vertex)
      | then-marks-records-via-else-marks-records+then-not-all_stay w ↦
          both_ways w.all_stay.result w.if-not-all_stay.true (w.all_stay.ensures.1 (all_stay (marks_in ps) (map g.T.Record.vertex xs) fit))
    ] in
    (λ no. absurd (false≢true no), λ fit. absurd (unfit fit))

pub returns-clause-answer : goal.returns-clause-answer
returns-clause-answer g c =
    let ps = c.args.marks.now in
    let xs = c.args.records.now in
    (λ yes. gatherable (marks_in ps) (map g.T.Record.vertex xs) (length-map ps is_mark ∙ c.if-marks-records.false ∙ sym (length-map xs g.T.Record.vertex)) (c.all_stay.ensures.0 c.if-not-all_stay.false), λ fit. refl)

pub returns-clause-kept : goal.returns-clause-kept
returns-clause-kept g c = λ yes.
    let ps = c.args.marks.now in
    let qs = c.number_marks.new.marks in
    let xs = c.args.records.now in
    let vs = map g.T.Record.vertex xs in
    let same : marks_in qs ≡ marks_in ps = c.number_marks.ensures.same in
    let fit = gatherable (marks_in ps) vs (length-map ps is_mark ∙ c.if-marks-records.false ∙ sym (length-map xs g.T.Record.vertex)) (c.all_stay.ensures.0 c.if-not-all_stay.false) in
    let P : List Bool → Type 0 = λ ms. Gatherable ms vs in
    noted_gather qs vs (renumbered_now ps qs c.number_marks.auto.marks same c.number_marks.ensures.numbers) (subst P (sym same) fit) ∙ ap (λ ms. gather ms vs) same

use Rattle.std.proofs.Common.{◌≡◌, true, false, List, map, take, sym, refl, ap, ◌∙◌, subst}
use Rattle.std.proofs.lemmas.List.{take-map}
use Rattle.ledger.specs.declared.Vertex.{Vertex}
use Rattle.ledger.specs.Gather.{keep, gather, Gatherable}
use Rattle.memory.specs.Marks.{noted_vertex}
use Rattle.memory.specs.Shelves.{marks_in}
use Rattle.bucket_shelf.specs.Chains.{vertex_of, vertices_in}
use Rattle.bucket_shelf.proofs.BucketShelfShelf.gather.Goals as goal

pub returns-then-not-number_vertices-clause-answer : goal.returns-then-not-number_vertices-clause-answer
returns-then-not-number_vertices-clause-answer g c =
    let s = c.args.self.now in
    let ms = marks_in c.args.marks.now in
    let all : map vertex_of c.entries.result.now ≡ take s.used (vertices_in s.records.now) = ap (map vertex_of) c.entries.ensures ∙ sym (take-map vertex_of s.used s.records.now) in
    let P : List (Vertex g.row.S.Denot) → Type 0 = λ vs. (false ≡ true → Gatherable ms vs) × (Gatherable ms vs → false ≡ true) in
    subst P all c.if-not-number_vertices.ensures.answer

pub returns-clause-answer : goal.returns-clause-answer
returns-clause-answer g c =
    let s = c.args.self.now in
    let ms = marks_in c.args.marks.now in
    let all : map vertex_of c.entries.result.now ≡ take s.used (vertices_in s.records.now) = ap (map vertex_of) c.entries.ensures ∙ sym (take-map vertex_of s.used s.records.now) in
    let P : List (Vertex g.row.S.Denot) → Type 0 = λ vs. (true ≡ true → Gatherable ms vs) × (Gatherable ms vs → true ≡ true) in
    subst P all c.if-not-number_vertices.ensures.answer

pub returns-clause-vertices : goal.returns-clause-vertices
returns-clause-vertices g c =
    let s = c.args.self.now in
    let ps = c.args.marks.now in
    let qs = c.number_vertices.new.marks in
    let all : map vertex_of c.entries.result.now ≡ take s.used (vertices_in s.records.now) = ap (map vertex_of) c.entries.ensures ∙ sym (take-map vertex_of s.used s.records.now) in
    let P : List (Vertex g.row.S.Denot) → Type 0 = λ vs. map (noted_vertex qs) (keep (marks_in qs) vs) ≡ gather (marks_in ps) vs in
    c.keep-self.ensures.vertices ∙ subst P all (c.if-not-number_vertices.ensures.kept refl)

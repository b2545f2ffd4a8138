use Rattle.std.proofs.Common.{◌≡◌, ◌+◌, [], List, ℕ, ap, ◌∙◌, subst, refl, arith}
use Rattle.kb_fsa.specs.Table.{Table}
use Rattle.kb_fsarat.specs.Layers.{HasText}
use Rattle.kb_fsarat.specs.Successors.{IsCompleted}
use Rattle.kb_fsarat.proofs.SuccessorLemmas.{none_from, first_found}
use Rattle.kb_fsarat.proofs.successor.first_of_length.Goals as goal

pub returns-then-is_empty-clause-none : goal.returns-then-is_empty-clause-none
returns-then-is_empty-clause-none c =
    let own : c.reach.new.self.table ≡ c.args.layers.now.table = c.in_ok-reach.ensures.table ∙ c.loop-length.invariant.0 in
    let P : Table → Type 0 = λ table. (state : ℕ) → ¬ HasText table c.loop-length.length state in
    none_from c.args.layers.now.table c.args.low (c.args.high + 1) c.loop-length.length c.loop-length.invariant.1
    (subst P own (c.if-is_empty.ensures.0 refl))

pub returns-then-contains-clause-some : goal.returns-then-contains-clause-some
returns-then-contains-clause-some c =
    let own : c.reach.new.self.table ≡ c.args.layers.now.table = c.in_ok-reach.ensures.table ∙ c.loop-length.invariant.0 in
    let initial : c.initial-initial.result ≡ c.args.layers.now.table.initial =
    c.initial-initial.ensures.initial ∙ ap (λ (table : Table). table.initial) (c.table.ensures ∙ own) in
    let P : Table → Type 0 = λ table. IsCompleted table c.loop-length.length c.args.layers.now.table.initial [] c.in_ok-word.word in
    let Q : ℕ → Type 0 = λ state. IsCompleted c.reach.new.self.table c.loop-length.length state [] c.in_ok-word.word in
    let R : List ℕ → Type 0 = λ front. IsCompleted c.reach.new.self.table c.loop-length.length c.initial-initial.result front c.in_ok-word.word in
    let low = c.loop-length.auto.length in
    let some = c.loop-length-test.true in
    first_found c.args.layers.now.table c.args.low c.args.high c.loop-length.length c.in_ok-word.word (omega arith) (omega arith)
    c.loop-length.invariant.1 (subst P own (subst Q initial (subst R c.new.ensures c.in_ok-word.ensures)))

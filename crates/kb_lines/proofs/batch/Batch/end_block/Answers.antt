use Rattle.std.proofs.Common.{rules, ◌≡◌, ◌≢◌, ◌∙◌, ◌++◌, ℕ, List, [], refl, sym, ap, append-nil}
use Rattle.std.specs.Prelude.{length}
use Rattle.std.proofs.lemmas.Bool.{eqb-true, eqb-false}
use Rattle.kb_lines.specs.Batches.{joined}
use Rattle.kb_lines.specs.declared.batch.Batch.{Batch}
use Rattle.kb_lines.proofs.BatchLemmas.{more-held, ended-held, joined-next, one-more}
use Rattle.kb_lines.proofs.ReadingLemmas.{no-length}
use Rattle.kb_lines.proofs.batch.Batch.end_block.Goals as goal

-- no line is behind the blocks
pub returns-then-is_empty-clause-taken : goal.returns-then-is_empty-clause-taken
returns-then-is_empty-clause-taken c =
    let old : Batch = c.args.self.now in
    let none : old.block.items ≡ [] = no-length old.block.items (sym old.block.ok.0 ∙ eqb-true _ _ (sym c.if-is_empty.ensures)) in
    sym (ap (λ (block : List ℕ). joined old.blocks.items ++ block) none ∙ append-nil (joined old.blocks.items))

pub returns-then-is_empty-clause-none : goal.returns-then-is_empty-clause-none
returns-then-is_empty-clause-none c =
    let old : Batch = c.args.self.now in
    no-length old.block.items (sym old.block.ok.0 ∙ eqb-true _ _ (sym c.if-is_empty.ensures))

pub returns-then-is_empty-clause-ready : goal.returns-then-is_empty-clause-ready
returns-then-is_empty-clause-ready c =
    more-held [] c.args.self.now _ c.requires.ready tt refl refl (sym (append-nil c.args.self.now.line.items)) refl refl

-- the lines behind the blocks are one block more
pub returns-clause-taken : goal.returns-clause-taken
returns-clause-taken c =
    let old : Batch = c.args.self.now in
    let own : c.of.result ≡ old.block.items = rw c.replace-block.ensures.value at c.of.ensures in
    let more = one-more old.blocks.items c.push.new.self.items old.block.items c.of.result c.in_ok-push.ensures.items own in
    ap joined more ∙ joined-next old.blocks.items old.block.items

pub returns-clause-ready : goal.returns-clause-ready
returns-clause-ready c =
    let old : Batch = c.args.self.now in
    let own : c.of.result ≡ old.block.items = rw c.replace-block.ensures.value at c.of.ensures in
    let more = one-more old.blocks.items c.push.new.self.items old.block.items c.of.result c.in_ok-push.ensures.items own in
    let some : old.block.items ≢ [] = λ none. eqb-false _ _ (sym c.if-is_empty.ensures) (old.block.ok.0 ∙ ap length none) in
    ended-held old _ c.requires.ready some more (search rules) refl refl refl

use Rattle.std.proofs.Common.{◌∙◌, ◌+◌, ℕ, ap, arith}
use Rattle.kb_lines.specs.Batches.{held}
use Rattle.kb_lines.proofs.BatchLemmas.{added-held, added-held_bytes, ended-held_bytes, newlines-fit}
use Rattle.kb_lines.proofs.batch.Batch.take_line.Goals as goal

-- there are no more lines than bytes
pub overflow_add-self : goal.overflow_add-self
overflow_add-self g c =
    let counted = c.requires.ready.counted in
    let same = c.add_line.ensures.count in
    let room = c.requires.room in
    omega (arith, counted, same, room, newlines-fit (held c.args.self.now))

-- the line goes into the block that is open
pub returns-then-self-block-clause-held : goal.returns-then-self-block-clause-held
returns-then-self-block-clause-held g c =
    let add = c.in_ok-add_line.ensures in
    added-held_bytes c.args.end.now c.args.self.now c.add_line.new.self.blocks.items c.add_line.new.self.block.items c.add_line.new.self.line.items
    add.block c.add_line.ensures.blocks add.line

pub returns-then-self-block-clause-ready : goal.returns-then-self-block-clause-ready
returns-then-self-block-clause-ready g c =
    let add = c.in_ok-add_line.ensures in
    added-held c.args.end.now c.args.self.now _ add.block c.add_line.ensures.blocks add.line (ap (λ (n : ℕ). n + 1) c.add_line.ensures.count) c.add_line.ensures.progress c.requires.ready c.requires.one

-- and ends it
pub end_block-requires : goal.end_block-requires
end_block-requires g c =
    let add = c.in_ok-add_line.ensures in
    record {
      ready = added-held c.args.end.now c.args.self.now _ add.block c.add_line.ensures.blocks add.line (ap (λ (n : ℕ). n + 1) c.add_line.ensures.count) c.add_line.ensures.progress
          c.requires.ready c.requires.one;
    }

pub returns-clause-held : goal.returns-clause-held
returns-clause-held g c =
    let add = c.in_ok-add_line.ensures in
    let end = c.in_ok-end_block.ensures in
    ended-held_bytes c.add_line.new.self c.end_block.new.self end.taken end.none c.end_block.ensures.line
    ∙ added-held_bytes c.args.end.now c.args.self.now c.add_line.new.self.blocks.items c.add_line.new.self.block.items c.add_line.new.self.line.items
    add.block c.add_line.ensures.blocks add.line

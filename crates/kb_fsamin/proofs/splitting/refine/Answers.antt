use Rattle.std.proofs.Common.{get_or, sym, ◌∙◌, subst, arith}
use Rattle.std.proofs.lemmas.List.Elements.{Contains-get_or}
use Rattle.kb_fsamin.specs.Partitions.{IsSplitBy}
use Rattle.kb_fsamin.specs.Splitting.{AreEntering, AreIncoming, AreLeaving}
use Rattle.kb_fsamin.proofs.Splittings.{cords_split, blocks_split}
use Rattle.kb_fsamin.proofs.splitting.refine.Goals as goal

pub split-requires-clause-items : goal.split-requires-clause-items
split-requires-clause-items c k d h =
    let edges = c.args.edges.now in
    let blocks = c.loop-block.blocks.of.items in
    let paired = c.loop-block.invariant.paired in
    let listed = c.as_slice.result.now in
    let entering : AreEntering edges blocks c.loop-block.block listed =
    subst (AreEntering edges blocks c.loop-block.block) (sym c.as_slice.ensures.value) c.in_ok-moves.ensures in
    omega (arith, (entering.sound k d h).0, paired.cord_each)

pub loop-block-preserved-then-block-len : goal.loop-block-preserved-then-block-len
loop-block-preserved-then-block-len c =
    let edges = c.args.edges.now in
    let start = c.args.start.now in
    let blocks = c.loop-block.blocks.of.items in
    let cords = c.loop-block.cords.of.items in
    let paired = c.loop-block.invariant.paired in
    let split : IsSplitBy c.in_ok-moves.moves.items cords c.split.new.self.of.items =
    subst (λ l. IsSplitBy l cords c.split.new.self.of.items) c.as_slice.ensures.value c.in_ok-split.ensures.split in
    record {
      paired = record {
        blocks_are = paired.blocks_are;
        cords_are = c.in_ok-split.ensures.partition;
        block_each = paired.block_each;
        cord_each = split.one_each ∙ paired.cord_each;
      };
      keeps = λ symbols table labels backward classing splitting.
          cords_split table labels edges symbols start blocks cords backward classing
          (c.loop-block.invariant.keeps symbols table labels backward classing splitting) c.loop-block.block c.in_ok-moves.moves.items c.split.new.self.of.items
          paired.cord_each c.in_ok-moves.ensures split;
    }

pub split-requires-then-cord-len-clause-items : goal.split-requires-then-cord-len-clause-items
split-requires-then-cord-len-clause-items c k d h =
    let edges = c.args.edges.now in
    let start = c.args.start.now in
    let cords = c.loop-block.cords.of.items in
    let listed = c.as_slice-then-cord-len.result.now in
    let leaving : AreLeaving edges start cords c.loop-block.cord listed =
    subst (AreLeaving edges start cords c.loop-block.cord) (sym c.as_slice-then-cord-len.ensures.value) c.in_ok-states.ensures in
    let from = leaving.sound (get_or listed k d) (Contains-get_or listed k d h) in
    omega (arith, from.state_is, c.requires.states from.move (0, 0) from.within, c.loop-block.invariant.paired.block_each)

pub loop-block-preserved : goal.loop-block-preserved
loop-block-preserved c =
    let edges = c.args.edges.now in
    let start = c.args.start.now in
    let blocks = c.loop-block.blocks.of.items in
    let cords = c.loop-block.cords.of.items in
    let blocks' = c.split-then-cord-len.new.self.of.items in
    let paired = c.loop-block.invariant.paired in
    let split : IsSplitBy c.in_ok-states.states.items blocks blocks' =
    subst (λ l. IsSplitBy l blocks blocks') c.as_slice-then-cord-len.ensures.value c.in_ok-split-2.ensures.split in
    record {
      paired = record {
        blocks_are = c.in_ok-split-2.ensures.partition;
        cords_are = paired.cords_are;
        block_each = split.one_each ∙ paired.block_each;
        cord_each = paired.cord_each;
      };
      keeps = λ symbols table labels backward classing splitting.
          blocks_split table labels edges symbols start blocks cords backward classing
          (c.loop-block.invariant.keeps symbols table labels backward classing splitting) c.loop-block.cord c.in_ok-states.states.items blocks'
          paired.block_each c.in_ok-states.ensures split;
    }

pub entering-requires-clause-known : goal.entering-requires-clause-known
entering-requires-clause-known c move e i = omega (arith, c.requires.known move e i, c.loop-block.invariant.paired.block_each)

pub entering-requires-clause-incoming : goal.entering-requires-clause-incoming
entering-requires-clause-incoming c =
    subst (λ n. AreIncoming c.args.edges.now n c.args.incoming.now) (sym c.loop-block.invariant.paired.block_each) c.requires.incoming

use Rattle.std.proofs.Common.{◌≡◌, ℕ, List, suc, length, get_or, sym, ap, ◌∙◌, subst, arith}
use Rattle.std.proofs.lemmas.Result.{IfOk-weaker}
use Rattle.kb_fsa.specs.Table.{Table}
use Rattle.kb_fsa.specs.Moves.{AreBackward}
use Rattle.kb_fsamin.specs.Rounds.{IsClassing}
use Rattle.kb_fsamin.specs.Splitting.{AreClassesOfBlocks, IsSplitting}
use Rattle.kb_fsamin.proofs.Classings.{one_class}
use Rattle.kb_fsamin.proofs.Splittings.{splitting_start, classing_from_blocks}
use Rattle.kb_fsamin.proofs.splitting.split_by_splitters.Goals as goal

pub returns : goal.returns
returns c =
    let edges = c.as_slice-edges.result.now in
    let symbols = c.args.moves.symbols.items in
    let start = c.args.start.now in
    let blocks = c.in_ok-blocks.blocks.of.items in
    let cords = c.in_ok-cords.cords.of.items in
    let of : blocks ≡ start = c.in_ok-blocks.ensures.of ∙ c.in_ok-of.ensures.items in
    let size : length symbols ≡ length edges = c.requires.symbols ∙ ap length (sym c.as_slice-edges.ensures.value) in
    let begin : (table : Table) (labels : List ℕ) → IsClassing table labels start → IsSplitting table labels edges symbols start blocks cords =
    λ table labels classing.
    subst (λ bs. IsSplitting table labels edges symbols start bs cords) (sym of)
    (splitting_start table labels edges symbols start cords classing
    (λ p q h i same. one_class table labels start classing p q (omega (arith, classing.one_each)) (omega (arith, classing.one_each)) same)
    (λ move other h i same.
    let value = c.as_slice.ensures.value in
    c.in_ok-cords.ensures.same move other (omega (arith, ap length value)) (omega (arith, ap length value))
    (ap (λ l. get_or l move 0) value ∙ same ∙ sym (ap (λ l. get_or l other 0) value)))) in
    IfOk-weaker c.classes_of_blocks.result (λ classes. AreClassesOfBlocks start c.refine.new.blocks (length start) classes.items) _
    (λ classes joined table labels backward classing.
    let back : AreBackward table (suc (length table.rows)) 0 edges symbols =
    subst (λ es. AreBackward table (suc (length table.rows)) 0 es symbols) (sym c.as_slice-edges.ensures.value) backward in
    let paired = c.in_ok-refine.ensures.paired in
    classing_from_blocks table labels edges symbols start c.refine.new.cords.of.items c.refine.new.blocks classes.items paired.blocks_are paired.block_each classing
    (c.in_ok-refine.ensures.keeps symbols table labels back classing (begin table labels classing)) joined)
    c.classes_of_blocks.ensures

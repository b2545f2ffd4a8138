use Rattle.std.proofs.Common.{◌≡◌, ℕ, List, [], get_or, sym, ◌∙◌, subst}
use Rattle.std.proofs.lemmas.Bool.{false≢true}
use Rattle.kb_word.specs.Words.{Less}
use Rattle.kb_labels.specs.Layers.KeepsLesser.{new_lesser, old_stays}
use Rattle.kb_labels.proofs.Adding.{read_word}
use Rattle.kb_labels.proofs.layer.keep_lesser.Goals as goal

pub returns-then-less : goal.returns-then-less
returns-then-less c =
    let at : c.index.result.now ≡ get_or c.args.words.now.items c.args.index [] =
    read_word c.args.words.now.items c.args.index c.index.result.now c.requires c.index.ensures in
    let P : List ℕ → Type 0 = λ w. Less c.args.word w in
    new_lesser (subst P at (c.less.ensures.0 c.if-less.true))

pub returns-else-less : goal.returns-else-less
returns-else-less c =
    let at : c.index.result.now ≡ get_or c.args.words.now.items c.args.index [] =
    read_word c.args.words.now.items c.args.index c.index.result.now c.requires c.index.ensures in
    let P : List ℕ → Type 0 = λ w. Less c.args.word w in
    old_stays (λ less. false≢true (sym c.if-less.false ∙ c.less.ensures.1 (subst P (sym at) less)))

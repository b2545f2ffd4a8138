use Rattle.std.proofs.Common.{◌<◌, ◌^◌, ◌++◌, All, ℕ, List, subst, sym, ap, ◌∙◌}
use Rattle.kb_word.specs.Words.{OneOf}
use Rattle.kb_word.specs.Rewriting.{IsIrreducible}
use Rattle.kb_rules.specs.Ending.{NoneEnds}
use Rattle.kb_rules.proofs.Endings.{irreducible_more}
use Rattle.kb_rules.proofs.Scanning.{is_cut, cut_irreducible, cut_step, cut_range}
use Rattle.kb_rules.proofs.scan.read_letter.Goals as goal

pub returns-in_default-clause-irreducible : goal.returns-in_default-clause-irreducible
returns-in_default-clause-irreducible c =
    let P : List ℕ → Type 0 = λ w. IsIrreducible (OneOf c.args.list.now.rules) w in
    let Q : List ℕ → Type 0 = λ w. NoneEnds c.args.list.now.rules w in
    subst P (sym c.in_ok-push.ensures.ok)
    (irreducible_more c.args.list.now.rules c.args.front.now c.args.letter c.requires.irreducible (subst Q c.in_ok-push.ensures.ok c.in_default.ensures.none))

pub returns-clause-irreducible : goal.returns-clause-irreducible
returns-clause-irreducible c =
    let first = rw c.in_ok-push.ensures.ok at c.in-Some.ensures.some in
    let cut = is_cut c.in_ok-push.ensures.ok c.left.ensures c.len.ensures c.len-2.ensures c.truncate.ensures in
    cut_irreducible c.args.front.now c.args.letter c.requires.irreducible first cut

pub returns-clause-some : goal.returns-clause-some
returns-clause-some c =
    let first = rw c.in_ok-push.ensures.ok at c.in-Some.ensures.some in
    let cut = is_cut c.in_ok-push.ensures.ok c.left.ensures c.len.ensures c.len-2.ensures c.truncate.ensures in
    let back = c.in_ok-put_back.ensures.ok ∙ ap (λ r. r ++ c.args.unread.now) c.right.ensures in
    cut_step c.args.front.now c.args.letter c.args.unread.now c.put_back.new.self c.requires.irreducible first cut back

pub returns-clause-range : goal.returns-clause-range
returns-clause-range c =
    let first = rw c.in_ok-push.ensures.ok at c.in-Some.ensures.some in
    let cut = is_cut c.in_ok-push.ensures.ok c.left.ensures c.len.ensures c.len-2.ensures c.truncate.ensures in
    let back = c.in_ok-put_back.ensures.ok ∙ ap (λ r. r ++ c.args.unread.now) c.right.ensures in
    let R : List ℕ → Type 0 = λ w. All (λ x. x < 2 ^ 16) w in
    let right = subst R c.right.ensures c.put_back.ensures.range in
    cut_range (λ x. x < 2 ^ 16) c.args.front.now c.args.letter c.args.unread.now c.put_back.new.self first cut back c.requires.range right

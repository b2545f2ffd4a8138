use Rattle.std.proofs.Common.{[], refl, sym}
use Rattle.std.proofs.lemmas.List.{append-nil}
use Rattle.kb_cmd_words.proofs.OrientLemmas.{adds_nothing, key_adds}
use Rattle.kb_cmd_words.proofs.orienting.insert_relation.Goals as goal

pub returns-in_ok-insert : goal.returns-in_ok-insert
returns-in_ok-insert c =
    let old = c.args.set.now.keys in
    let new = c.insert.new.self.keys in
    key_adds old new (c.args.left, c.args.right) c.in-Some.rule c.in-Some.ensures.some
    c.in_ok-insert.ensures.keys

pub returns-in_default : goal.returns-in_default
returns-in_default c =
    let old = c.args.set.now.keys in
    ([], adds_nothing old c.args.left c.args.right (c.in_default.ensures.none refl), sym (append-nil old))

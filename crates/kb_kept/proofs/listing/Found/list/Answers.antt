use Rattle.std.proofs.Common.{◌≡◌, false, nat_eq, ap, sym, refl, ◌∙◌, arith}
use Rattle.std.specs.List.{list_any}
use Rattle.std.specs.Cmp.Lexicographic.{pointwise}
use Rattle.indexmap.specs.IndexSet.{insert_key}
use Rattle.kb_diff.proofs.Inserting.{has_word, lacks_word, word_added}
use Rattle.kb_kept.specs.Finding.{known_already, found_first, no_room}
use Rattle.kb_kept.proofs.listing.Found.list.Goals as goal

pub returns-then-contains : goal.returns-then-contains
returns-then-contains c = known_already (has_word c.args.self.now.known.keys c.args.seen.word (sym c.contains.ensures ∙ c.if-contains.true)) refl refl

pub returns-then-len-most : goal.returns-then-len-most
returns-then-len-most c =
    no_room (lacks_word c.args.self.now.known.keys c.args.seen.word (sym c.contains.ensures ∙ c.if-contains.false))
    (omega (arith, c.len.ensures.len, c.if-len-most.true)) refl refl

pub returns : goal.returns
returns c =
    let keys = c.args.self.now.known.keys in
    let word = c.args.seen.word in
    let missed : list_any (pointwise nat_eq word) keys ≡ false = sym c.contains.ensures ∙ c.if-contains.false in
    found_first (lacks_word keys word missed) (omega (arith, c.len.ensures.len, c.if-len-most.false))
    (word_added keys c.insert.new.self.keys word missed
    (c.in_ok-insert.ensures.keys ∙ ap (insert_key (pointwise nat_eq) keys) c.in_ok-copy.ensures))
    c.in_ok-push.ensures.items

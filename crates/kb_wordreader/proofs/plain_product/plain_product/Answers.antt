use Rattle.std.proofs.Common.{rules, ◌≡◌, ◌∷◌, [], ◌-◌, length, take, drop, get_or, sym, ◌∙◌, arith}
use Rattle.kb_lexing.specs.Token.{name}
use Rattle.kb_lexing.specs.Spelling.{after_gap}
use Rattle.kb_wordreader.specs.Products.{Passed}
use Rattle.kb_wordreader.proofs.PassLemmas.{passed_more, passed_word, passed_fault, no_bytes, mark_split}
use Rattle.kb_wordreader.proofs.FactorLemmas.{token_shorter, mark_shorter}
use Rattle.kb_wordreader.proofs.plain_product.plain_product.Goals as goal

pub returns-in-None-clause-word : goal.returns-in-None-clause-word
returns-in-None-clause-word c =
    let names = c.args.names.now in
    let bytes = c.args.bytes.now in
    let rest = c.take_starred_names-rest.result.now in
    let so_far = c.take_starred_names-rest.new.word in
    let before = c.loop-behind.fault in
    let w = c.take_first.new.word in
    let fault = c.take_first.new.fault in
    let t = c.in-Some.ensures.takes in
    let passed : Passed names bytes rest so_far before = c.take_starred_names-rest.ensures.takes bytes c.loop-behind.invariant.passed in
    let end : after_gap c.in-Some.behind.now ≡ [] = sym c.behind_gap.ensures ∙ no_bytes _ (omega (arith, c.in-empty.len_below)) in
    passed_word names bytes rest c.in-Some.behind.now so_far t.spelling w before fault passed t.first t.takes end (search rules)

pub returns-in-Some-fault-clause-fault : goal.returns-in-Some-fault-clause-fault
returns-in-Some-fault-clause-fault c =
    let names = c.args.names.now in
    let bytes = c.args.bytes.now in
    let rest = c.take_starred_names-rest.result.now in
    let so_far = c.take_starred_names-rest.new.word in
    let before = c.loop-behind.fault in
    let w = c.take_first.new.word in
    let fault = c.take_first.new.fault in
    let t = c.in-Some.ensures.takes in
    let passed : Passed names bytes rest so_far before = c.take_starred_names-rest.ensures.takes bytes c.loop-behind.invariant.passed in
    let end : after_gap c.in-Some.behind.now ≡ [] = sym c.behind_gap.ensures ∙ no_bytes _ (omega (arith, c.in-empty.len_below)) in
    passed_fault names bytes rest c.in-Some.behind.now so_far t.spelling w before fault passed t.first t.takes end _ (search rules)

pub loop-behind-smaller : goal.loop-behind-smaller
loop-behind-smaller c =
    let text = c.behind_gap.result.now in
    let behind = c.in-Some.behind.now in
    let next = take (length text - 1) (drop 1 text) in
    let t = c.in-Some.ensures.takes in
    let begun : get_or text 0 0 ≡ 42 = search rules in
    let at : after_gap behind ≡ 42 ∷ next = sym c.behind_gap.ensures ∙ mark_split 42 text (omega (arith, c.in-42.len_at_least)) begun in
    omega (arith, token_shorter (name t.spelling) c.take_starred_names-rest.result.now behind t.first, c.take_starred_names-rest.ensures.shorter, mark_shorter 42 behind next at)

pub loop-behind-preserved : goal.loop-behind-preserved
loop-behind-preserved c =
    let names = c.args.names.now in
    let bytes = c.args.bytes.now in
    let rest = c.take_starred_names-rest.result.now in
    let so_far = c.take_starred_names-rest.new.word in
    let before = c.loop-behind.fault in
    let w = c.take_first.new.word in
    let fault = c.take_first.new.fault in
    let t = c.in-Some.ensures.takes in
    let text = c.behind_gap.result.now in
    let behind = c.in-Some.behind.now in
    let next = take (length text - 1) (drop 1 text) in
    let passed : Passed names bytes rest so_far before = c.take_starred_names-rest.ensures.takes bytes c.loop-behind.invariant.passed in
    let begun : get_or text 0 0 ≡ 42 = search rules in
    let at : after_gap behind ≡ 42 ∷ next = sym c.behind_gap.ensures ∙ mark_split 42 text (omega (arith, c.in-42.len_at_least)) begun in
    record {
      passed = passed_more names bytes rest behind so_far t.spelling w before fault passed t.first t.takes next at;
      few = c.in-Some.ensures.few;
    }

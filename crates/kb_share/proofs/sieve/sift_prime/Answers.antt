use Rattle.std.proofs.Common.{◌∙◌}
use Rattle.kb_word.specs.Overlap.{critical_pair}
use Rattle.kb_overlap.proofs.Joined.{apart_given, joined_given}
use Rattle.kb_share.proofs.Sifted.{found_read}
use Rattle.kb_share.proofs.Sieving.{read_at, joined_at, is_apart_as}
use Rattle.kb_share.proofs.sieve.sift_prime.Goals as goal

pub returns-in-Joined : goal.returns-in-Joined
returns-in-Joined g c =
    let rules = c.args.version.now.rules in
    let one = c.args.overlap.now in
    let prime = c.requires in
    let first = c.index-as_slice-index.result in
    let second = c.index-as_slice-overlap.result in
    let is_first = read_at rules c.as_slice.result.now c.args.index first prime.first prime.overlap.is_first
    (c.as_slice.ensures.rules ∙ c.rules.ensures) c.index-as_slice-index.is in
    let is_second = read_at rules c.as_slice-2.result.now one.rule second prime.second prime.overlap.is_second
    (c.as_slice-2.ensures.rules ∙ c.rules-2.ensures) c.index-as_slice-overlap.is in
    joined_at rules c.args.index one first second is_first is_second
    (joined_given _ rules (critical_pair first second one.place) c.join.new.self c.in_ok-join.field-0 c.reducer.ensures c.in-Joined.is c.in_ok-join.ensures.says)

pub returns-in-Apart : goal.returns-in-Apart
returns-in-Apart g c =
    let version = c.args.version.now in
    let rules = version.rules in
    let one = c.args.overlap.now in
    let prime = c.requires in
    let first = c.index-as_slice-index.result in
    let second = c.index-as_slice-overlap.result in
    let is_first = read_at rules c.as_slice.result.now c.args.index first prime.first prime.overlap.is_first
    (c.as_slice.ensures.rules ∙ c.rules.ensures) c.index-as_slice-index.is in
    let is_second = read_at rules c.as_slice-2.result.now one.rule second prime.second prime.overlap.is_second
    (c.as_slice-2.ensures.rules ∙ c.rules-2.ensures) c.index-as_slice-overlap.is in
    is_apart_as version c.args.index one first second c.join.new.self _ is_first is_second prime
    (apart_given _ rules (critical_pair first second one.place) c.join.new.self c.in_ok-join.field-0 c.reducer.ensures c.in-Apart.is c.in_ok-join.ensures.says)
    (found_read version.numbers c.numbers.result.now c.numbers-in-Apart.result.now c.args.index one c.numbers.ensures.numbers
    c.numbers-in-Apart.ensures.numbers)
    c.letters_of.ensures

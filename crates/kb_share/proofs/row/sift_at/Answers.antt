use Rattle.std.proofs.Common.{◌≡◌, ◌<◌, ◌∙◌, arith}
use Rattle.kb_word.specs.Overlap.{critical_pair}
use Rattle.kb_share.proofs.Sifted.{joined_not_apart, is_apart_at, second_read, found_read}
use Rattle.kb_overlap.proofs.Joined.{apart_given, joined_given}
use Rattle.kb_share.proofs.row.sift_at.Goals as goal
use Rattle.kb_share.proofs.row.sift_at.Goals.{else-overlap-index-via-then-overlap-index+else-overlap-eq0, else-overlap-index-via-else-overlap-index}

pub returns-in-Joined : goal.returns-in-Joined
returns-in-Joined g c =
    let version = c.args.version.now in
    let one = c.args.overlap.now in
    let first = c.args.first.now in
    let second = c.index-as_slice-overlap.result in
    let is_second = second_read version.rules c.as_slice.result.now first.0 one second c.requires.overlap
    (c.as_slice.ensures.rules ∙ c.rules.ensures) c.index-as_slice-overlap.is in
    joined_not_apart version.rules c.args.index one first second c.requires.first is_second
    (joined_given _ version.rules (critical_pair first second one.place) c.join.new.self c.in_ok-join.field-0 c.reducer.ensures c.in-Joined.is c.in_ok-join.ensures.says)

pub returns-in-Apart : goal.returns-in-Apart
returns-in-Apart g c =
    let version = c.args.version.now in
    let index = c.args.index in
    let one = c.args.overlap.now in
    let first = c.args.first.now in
    let second = c.index-as_slice-overlap.result in
    let is_second = second_read version.rules c.as_slice.result.now first.0 one second c.requires.overlap
    (c.as_slice.ensures.rules ∙ c.rules.ensures) c.index-as_slice-overlap.is in
    let proper : index ≡ one.rule → 0 < one.place = λ same. elim c.else-overlap-index.branch [
      | else-overlap-index-via-then-overlap-index+else-overlap-eq0 w ↦ omega arith
      | else-overlap-index-via-else-overlap-index w ↦ omega arith
    ] in
    let reduced = c.join.new.self in
    let parts = apart_given _ version.rules (critical_pair first second one.place) reduced c.in_ok-join.field-0 c.reducer.ensures c.in-Apart.is
    c.in_ok-join.ensures.says in (
      is_apart_at version.rules index one first second reduced.0 reduced.1 c.requires.first is_second c.requires.overlap proper parts,
      found_read version.numbers c.numbers.result.now c.numbers-in-Apart.result.now index one c.numbers.ensures.numbers
          c.numbers-in-Apart.ensures.numbers,
    )

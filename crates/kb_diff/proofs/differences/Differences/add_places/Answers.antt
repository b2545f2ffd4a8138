use Rattle.std.proofs.Common.{◌+◌, ◌≤◌, length, refl, sym, ◌∙◌, true≢false, arith}
use Rattle.std.proofs.lemmas.List.{take_all}
use Rattle.kb_diff.specs.Differences.{last_place}
use Rattle.kb_diff.proofs.PathLemmas.{so_far_none, place_more, so_far_more, adds_full, front_more}
use Rattle.kb_diff.proofs.differences.Differences.add_places.Goals as goal

pub loop-place-init : goal.loop-place-init
loop-place-init g c = record {
  group = refl;
  most = refl;
  front = take_all (length c.args.self.now.words) c.args.self.now.words (omega arith);
  so_far = so_far_none c.args.self.now.group c.args.self.now.most c.args.u.now c.args.v.now c.args.self.now.words;
}

pub keep-requires-clause-irreducible : goal.keep-requires-clause-irreducible
keep-requires-clause-irreducible g c = c.in_ok-word.ensures.difference.normal.irreducible

pub returns-then-is_full-clause-ok : goal.returns-then-is_full-clause-ok
returns-then-is_full-clause-ok g c =
    let now = c.args.self.now in
    let before = c.loop-place.self in
    let so_far = c.loop-place.invariant in
    let more = place_more now.group before.group now.most before.most c.args.u.now c.args.v.now c.loop-place.place now.words before.words c.keep.new.self.words
    c.loop-place.answer c.in_ok-one.one c.and-answer.result c.in_ok-word.word so_far.group so_far.most c.and-answer.ensures so_far.so_far
    c.in_ok-word.ensures.difference c.in_ok-one.ensures.ok in
    let within : c.loop-place.place + 1 ≤ last_place c.args.u.now c.args.v.now =
    omega (arith, c.loop-place-test.true, c.max-place-end.ensures, c.len.ensures, c.len-2.ensures) in
    adds_full now.group now.most c.args.u.now c.args.v.now (c.loop-place.place + 1) now.words c.keep.new.self.words c.and-answer.result within
    (c.is_full.ensures.0 c.if-is_full.true) more

pub returns-then-is_full-clause-front : goal.returns-then-is_full-clause-front
returns-then-is_full-clause-front g c =
    front_more c.loop-place.self.most c.in_ok-word.word (c.loop-place.place + 1) c.args.self.now.words c.loop-place.self.words c.keep.new.self.words
    c.in_ok-one.one c.loop-place.invariant.front c.in_ok-one.ensures.ok

pub loop-place-preserved : goal.loop-place-preserved
loop-place-preserved g c =
    let now = c.args.self.now in
    let before = c.loop-place.self in
    let so_far = c.loop-place.invariant in
    let more = place_more now.group before.group now.most before.most c.args.u.now c.args.v.now c.loop-place.place now.words before.words c.keep.new.self.words
    c.loop-place.answer c.in_ok-one.one c.and-answer.result c.in_ok-word.word so_far.group so_far.most c.and-answer.ensures so_far.so_far
    c.in_ok-word.ensures.difference c.in_ok-one.ensures.ok in record {
      group = c.keep.ensures.group ∙ so_far.group;
      most = c.keep.ensures.most ∙ so_far.most;
      front = front_more before.most c.in_ok-word.word (c.loop-place.place + 1) now.words before.words c.keep.new.self.words c.in_ok-one.one so_far.front
          c.in_ok-one.ensures.ok;
      so_far = so_far_more now.group now.most c.args.u.now c.args.v.now (c.loop-place.place + 1) now.words c.keep.new.self.words c.and-answer.result
          (λ full. true≢false (sym (c.is_full.ensures.1 full) ∙ c.if-is_full.false)) more;
    }

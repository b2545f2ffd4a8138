use Rattle.std.proofs.Common.{◌<◌, ◌^◌, ℕ, List, sym, ◌∙◌, subst, arith}
use Rattle.std.specs.List.{All}
use Rattle.kb_labels.specs.Seconds.{Beside, normal_form_of, is_normal_form}
use Rattle.kb_labels.specs.Unequal.{IsLeastOther}
use Rattle.kb_labels.proofs.SecondRuns.{second_accepted}
use Rattle.kb_labels.proofs.seconds.Seconds.least.Goals as goal

pub word_of-requires : goal.word_of-requires
word_of-requires g c =
    let it = c.args.self.now in
    let rules = g.R.Reducer.rules it.reducer.now in
    let order = g.R.Reducer.order it.reducer.now in
    let beside : Beside = record {
      n = it.symbols.n;
      table = it.pairs.now.table;
      marks = it.marks.now;
      normal = normal_form_of order rules it.decreasing;
      first = it.first.now;
      state = it.state;
      word = it.word.now;
      target = it.target.now;
    } in
    let least = rw c.in-Ok-Some.field-0-is at c.in-Ok-Some.ensures.found in
    let other = (second_accepted beside rules (is_normal_form order rules it.decreasing) c.requires.live c.requires.word
    c.in-Ok-Some.text.items).0 least.accepted in
    let P : List ℕ → Type 0 = λ word. All (λ letter. letter < 2 ^ 16) word in
    subst P (sym c.as_slice.ensures.value) (λ k d within. omega (arith, (other.over k d within).1, c.requires.generators))

pub returns-in_ok-word_of-in-Ok-Some-clause-found : goal.returns-in_ok-word_of-in-Ok-Some-clause-found
returns-in_ok-word_of-in-Ok-Some-clause-found g c =
    let it = c.args.self.now in
    let rules = g.R.Reducer.rules it.reducer.now in
    let order = g.R.Reducer.order it.reducer.now in
    let beside : Beside = record {
      n = it.symbols.n;
      table = it.pairs.now.table;
      marks = it.marks.now;
      normal = normal_form_of order rules it.decreasing;
      first = it.first.now;
      state = it.state;
      word = it.word.now;
      target = it.target.now;
    } in
    let least = rw c.in-Ok-Some.field-0-is at c.in-Ok-Some.ensures.found in
    let accepted = second_accepted beside rules (is_normal_form order rules it.decreasing) c.requires.live c.requires.word in
    let P : List ℕ → Type 0 = λ word. IsLeastOther beside.n rules beside.table beside.state beside.first beside.word beside.target word in
    subst P (sym (c.in_ok-word_of-in-Ok-Some.ensures ∙ c.as_slice.ensures.value)) (record {
      other = (accepted c.in-Ok-Some.text.items).0 least.accepted;
      least = λ more other less. least.least more ((accepted more).1 other) less;
    })

pub returns-in-Ok-None-clause-none : goal.returns-in-Ok-None-clause-none
returns-in-Ok-None-clause-none g c =
    let it = c.args.self.now in
    let rules = g.R.Reducer.rules it.reducer.now in
    let order = g.R.Reducer.order it.reducer.now in
    let beside : Beside = record {
      n = it.symbols.n;
      table = it.pairs.now.table;
      marks = it.marks.now;
      normal = normal_form_of order rules it.decreasing;
      first = it.first.now;
      state = it.state;
      word = it.word.now;
      target = it.target.now;
    } in
    let accepted = second_accepted beside rules (is_normal_form order rules it.decreasing) c.requires.live c.requires.word in
    let none = rw c.in-Ok-None.field-0-is at c.in-Ok-None.ensures.none in
    λ second other. none second ((accepted second).1 other)

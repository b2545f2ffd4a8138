use Rattle.std.proofs.Common.{◌≡◌, List, ℕ, ap, subst}
use Rattle.kb_word.specs.Presentations.{PresentationParts, parts_of}
use Rattle.kb_word.specs.Rewriting.{NormalForm}
use Rattle.kb_lines.specs.Streams.{Streams, streams}
use Rattle.kb_lines.specs.Answered.{AllAnswered, Stops}
use Rattle.kb_lines.proofs.WiderLemmas.{answered-wider, stops-wider}
use Rattle.kb_cmd_words.specs.Confluence.{relations, IsLeastIn}
use Rattle.kb_cmd_words.proofs.RunLemmas.{answered-run, stop-run}
use Rattle.kb_cmd_words.proofs.run.answer_all.Goals as goal

pub returns-in-Ok-answer_in_batches : goal.returns-in-Ok-answer_in_batches
returns-in-Ok-answer_in_batches g c = λ shelf.
    let parts : PresentationParts = parts_of c.args.presentation in
    let order = c.args.presentation.order in
    let rules = c.args.rules.now.rules in
    let among : (w m : List ℕ) → NormalForm c.args.index.rules w m → IsLeastIn parts w m = λ w m normal.
    c.least_by_the_same_congruence.ensures order rules (relations parts) w m
    (c.oriented_relations_keep_the_congruence.ensures order (relations parts) rules c.requires.oriented)
    (c.normal_forms_by_confluent_rules_are_least.ensures order rules w m (c.oriented_rules_decrease.ensures order (relations parts) rules c.requires.oriented) c.requires.confluent
    (rw c.requires.index at normal)) in
    let before : Streams = streams (g.I.Source.state c.args.input.now) (g.O.Sink.state c.args.out.now) in
    let after : Streams = streams (g.I.Source.state c.answer_in_batches.new.input) (g.O.Sink.state c.answer_in_batches.new.out) in
    let same : parts_of c.in-Ok.reader.presentation ≡ parts = ap parts_of c.in-Ok.ensures in
    let By : PresentationParts → Type 0 = λ p. AllAnswered p (NormalForm c.args.index.rules) before after in
    answered-run parts shelf before after
    (record { rules = rules; oriented = c.requires.oriented; confluent = c.requires.confluent })
    c.answer_in_batches.ensures.goes_on
    (λ told. answered-wider parts (NormalForm c.args.index.rules) (IsLeastIn parts) among {before = before} {after = after}
    (subst By same (c.in-Ok-answer_in_batches.ensures.answered told)))

pub returns : goal.returns
returns g c = λ shelf.
    let parts : PresentationParts = parts_of c.args.presentation in
    let order = c.args.presentation.order in
    let rules = c.args.rules.now.rules in
    let among : (w m : List ℕ) → NormalForm c.args.index.rules w m → IsLeastIn parts w m = λ w m normal.
    c.least_by_the_same_congruence.ensures order rules (relations parts) w m
    (c.oriented_relations_keep_the_congruence.ensures order (relations parts) rules c.requires.oriented)
    (c.normal_forms_by_confluent_rules_are_least.ensures order rules w m (c.oriented_rules_decrease.ensures order (relations parts) rules c.requires.oriented) c.requires.confluent
    (rw c.requires.index at normal)) in
    let before : Streams = streams (g.I.Source.state c.args.input.now) (g.O.Sink.state c.args.out.now) in
    let after : Streams = streams (g.I.Source.state c.answer_in_batches.new.input) (g.O.Sink.state c.answer_in_batches.new.out) in
    let same : parts_of c.in-Ok.reader.presentation ≡ parts = ap parts_of c.in-Ok.ensures in
    let By : PresentationParts → Type 0 = λ p. Stops p (NormalForm c.args.index.rules) before after c.in-Err.stop in
    stop-run parts shelf before after
    c.in-Err.stop c.status_of.result c.status_of.ensures
    (record { rules = rules; oriented = c.requires.oriented; confluent = c.requires.confluent })
    c.answer_in_batches.ensures.goes_on c.in-Err.ensures.counted
    (λ told. stops-wider parts (NormalForm c.args.index.rules) (IsLeastIn parts) among {before = before} {after = after}
    (subst By same (c.in-Err.ensures.stops told)))

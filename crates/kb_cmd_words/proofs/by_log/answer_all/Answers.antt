use Rattle.std.proofs.Common.{◌≡◌, List, ℕ, ap, subst}
use Rattle.kb_word.specs.Presentations.{PresentationParts, parts_of}
use Rattle.kb_word.specs.Rewriting.{NormalForm}
use Rattle.kb_word.specs.Words.{Pair}
use Rattle.kb_lines.specs.Streams.{Streams, streams}
use Rattle.kb_lines.specs.Answered.{AllAnswered, Stops}
use Rattle.kb_lines.proofs.WiderLemmas.{answered-wider, stops-wider}
use Rattle.kb_cmd_words.specs.Confluence.{IsLeastIn}
use Rattle.kb_cmd_words.proofs.LogRuns.{run-answered, run-nothing, run-stopped}
use Rattle.kb_cmd_words.proofs.by_log.answer_all.Goals as goal

pub returns-in_default : goal.returns-in_default
returns-in_default g c = λ log shelf decides is.
    run-nothing (parts_of c.args.presentation) log shelf (g.I.Source.state c.args.input.now) (g.O.Sink.state c.args.out.now)

pub returns-in-Ok-answer_in_batches : goal.returns-in-Ok-answer_in_batches
returns-in-Ok-answer_in_batches g c = λ log shelf decides is.
    let parts : PresentationParts = parts_of c.args.presentation in
    let rules : List Pair = c.args.index.rules in
    let among : (w m : List ℕ) → NormalForm rules w m → IsLeastIn parts w m = λ w m normal.
    let By : List Pair → Type 0 = λ r. NormalForm r w m in
    c.lines_that_decide_give_least_words.ensures parts log w m decides (subst By is normal) in
    let before : Streams = streams (g.I.Source.state c.args.input.now) (g.O.Sink.state c.args.out.now) in
    let after : Streams = streams (g.I.Source.state c.answer_in_batches.new.input) (g.O.Sink.state c.answer_in_batches.new.out) in
    let same : parts_of c.in-Ok.reader.presentation ≡ parts = ap parts_of c.in-Ok.ensures in
    let Of : PresentationParts → Type 0 = λ p. AllAnswered p (NormalForm rules) before after in
    run-answered parts log shelf before after decides c.answer_in_batches.ensures.goes_on
    (λ told. answered-wider parts (NormalForm rules) (IsLeastIn parts) among {before = before} {after = after}
    (subst Of same (c.in-Ok-answer_in_batches.ensures.answered told)))

pub returns : goal.returns
returns g c = λ log shelf decides is.
    let parts : PresentationParts = parts_of c.args.presentation in
    let rules : List Pair = c.args.index.rules in
    let among : (w m : List ℕ) → NormalForm rules w m → IsLeastIn parts w m = λ w m normal.
    let By : List Pair → Type 0 = λ r. NormalForm r w m in
    c.lines_that_decide_give_least_words.ensures parts log w m decides (subst By is normal) in
    let before : Streams = streams (g.I.Source.state c.args.input.now) (g.O.Sink.state c.args.out.now) in
    let after : Streams = streams (g.I.Source.state c.answer_in_batches.new.input) (g.O.Sink.state c.answer_in_batches.new.out) in
    let same : parts_of c.in-Ok.reader.presentation ≡ parts = ap parts_of c.in-Ok.ensures in
    let Of : PresentationParts → Type 0 = λ p. Stops p (NormalForm rules) before after c.in-Err.stop in
    run-stopped parts log shelf before after c.in-Err.stop c.status_of.result c.status_of.ensures decides
    c.answer_in_batches.ensures.goes_on c.in-Err.ensures.counted
    (λ told. stops-wider parts (NormalForm rules) (IsLeastIn parts) among {before = before} {after = after}
    (subst Of same (c.in-Err.ensures.stops told)))

use Rattle.std.proofs.Common.{ℕ, List, ◌↔◌}
use Rattle.std.proofs.lemmas.Result.{IfOk-weaker}
use Rattle.kb_fsa.specs.Language.{AcceptsText}
use Rattle.kb_fsa.specs.Counted.{IsAfterFirst}
use Rattle.kb_fsadet.specs.Nondeterministic.{LeadsSomehow, AcceptsSomehow}
use Rattle.kb_fsadet.specs.Projection.{IsProjection}
use Rattle.kb_fsadet.proofs.Projections.{is_projection, texts_of_pairs, MoreSetsThan-like}
use Rattle.kb_fsadet.proofs.projection.exists.Goals as goal

pub returns-clause-language : goal.returns-clause-language
returns-clause-language c =
    let pairs = c.args.pairs.now in
    let nfa = c.in_ok-words.words in
    let is = c.in_ok-words.ensures.automaton in
    let projected = is_projection pairs is.table (texts_of_pairs pairs c.requires.0 c.requires.1 is) nfa c.in_ok-words.ensures.reads in
    IfOk-weaker c.determinise.result (λ fsa. (text : List ℕ) → AcceptsText fsa text ↔ AcceptsSomehow nfa text) (IsProjection pairs)
    (λ fsa same word. (
      λ accepts. (projected word).0 ((same word).0 accepts),
      λ has. (same word).1 ((projected word).1 has),
    ))
    c.determinise.ensures.language

pub returns-clause-few : goal.returns-clause-few
returns-clause-few c = λ some more.
    c.determinise.ensures.few some (MoreSetsThan-like (IsAfterFirst c.args.pairs.now) (LeadsSomehow c.in_ok-words.words) c.args.limit
    (λ word state. let same = c.in_ok-words.ensures.reads.among word state in (same.1, same.0)) more)

pub returns-clause-many : goal.returns-clause-many
returns-clause-many c = λ most is.
    let more = c.determinise.ensures.many most is in (
      more.0,
      MoreSetsThan-like (LeadsSomehow c.in_ok-words.words) (IsAfterFirst c.args.pairs.now) c.args.limit
          c.in_ok-words.ensures.reads.among more.1,
    )

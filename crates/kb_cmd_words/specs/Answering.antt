-- Word lines that were answered with the least words of a presentation, in one way.
use Rattle.std.proofs.Common.{◌≡◌, inl, inr, ℕ, List, ◌++◌, sym, ◌∙◌, ap, subst}
use Rattle.kb_io.specs.Outside.{Outside}
use Rattle.kb_word.specs.Presentations.{PresentationParts}
use Rattle.kb_word.specs.WordOrderLaws.{word_orders}
use Rattle.kb_task.specs.Presentations.{HoldsPresentation}
use Rattle.kb_task.specs.Runs.{HasSameEffect}
use Rattle.kb_task.proofs.LoadEnds.{one_presentation_held}
use Rattle.kb_lines.specs.Answered.{AllAnswered}
use Rattle.kb_lines.proofs.UniqueLemmas.{one-answered}
use Rattle.kb_cmd_words.specs.Confluence.{IsLeastIn}
use Rattle.kb_cmd_words.specs.ByRelations.{StoresNothing, streams_of}

-- the file holds a presentation, and each word line was answered with its least word
pub record HasAnswered (file : List ℕ) (before after : Outside) : Type 0 where
  pub parts : PresentationParts
  pub presents : HoldsPresentation before.shelf.holds file parts
  pub answered : AllAnswered parts (IsLeastIn parts) (streams_of before) (streams_of after)

-- a word has one least word
one_least : (parts : PresentationParts) (w m n : List ℕ) → IsLeastIn parts w m
    → IsLeastIn parts w n → m ≡ n
one_least parts w m n one other = elim ((word_orders parts.order).total m n) [
  | inl same ↦ same
  | inr (inl less) ↦ absurd (other.least m one.congruent less)
  | inr (inr more) ↦ absurd (one.least n other.congruent more)
]

-- one file and one input have the same answers
pub one_effect : (file : List ℕ) (before after other_before other_after : Outside)
    → HasAnswered file before after → HasAnswered file other_before other_after
    → before.shelf.holds file ≡ other_before.shelf.holds file
    → before.input.left ≡ other_before.input.left
    → HasSameEffect StoresNothing before after other_before other_after
one_effect file before after other_before other_after one other same input =
    let parts : one.parts ≡ other.parts = one_presentation_held same one.presents other.presents in
    let Answered : PresentationParts → Type 0 = λ p.
    AllAnswered p (IsLeastIn p) (streams_of before) (streams_of after) in
    let answered : Answered other.parts = subst Answered parts one.answered in
    let text = one-answered (streams_of before) (streams_of after) (streams_of other_before)
    (streams_of other_after) (one_least other.parts) answered other.answered input in
    record {
      bytes = answered.given;
      written = answered.sent;
      other_written =
          other.answered.sent
          ∙ ap (λ given. other_before.output.written ++ given) (sym text);
      stored = λ name stored. absurd stored;
    }

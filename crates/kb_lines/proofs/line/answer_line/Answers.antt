use Rattle.std.proofs.Common.{rules, ◌≢◌, [], ◌∷◌, ◌++◌, length, sym, subst, append-nil}
use Rattle.kb_lexing.specs.Spelling.{after_gap}
use Rattle.kb_io.specs.Bytes.{newline}
use Rattle.kb_word.specs.Presentations.{PresentationParts}
use Rattle.kb_word.specs.Printed.{text_of_word}
use Rattle.kb_word.specs.Relations.{IsOver}
use Rattle.kb_lines.specs.WordLines.{AddsGiven, blank, word}
use Rattle.kb_lines.proofs.OverLemmas.{read_over}
use Rattle.kb_lines.proofs.line.answer_line.Goals as goal

pub returns-then-is_blank-clause-given : goal.returns-then-is_blank-clause-given
returns-then-is_blank-clause-given g c = record { given = []; gives = blank (search rules); added = sym (append-nil c.args.pending.now.items) }

-- the letters of a word that is read are generators
pub answer-requires : goal.answer-requires
answer-requires g c =
    record {
      over = subst (λ (parts : PresentationParts). IsOver (length parts.names) c.parse_into.new.word)
          c.reader-reader.ensures
          (read_over c.reader-reader.result.now.presentation c.args.line.now c.parse_into.new.word c.in_ok-parse_into.ensures.read);
    }

pub returns-clause-given : goal.returns-clause-given
returns-clause-given g c =
    let some : after_gap c.args.line.now ≢ [] = search rules in
    subst (λ (parts : PresentationParts). AddsGiven parts (g.A.Answerer.answers c.args.answerer.now) c.args.line.now c.args.pending.now.items c.print_answer.new.pending.items)
    c.reader-reader.ensures
    (record {
      given = text_of_word c.reader-reader.result.now.presentation.names c.answer.new.word ++ newline ∷ [];
      gives = word some c.in_ok-parse_into.ensures.read c.in_ok-answer.ensures;
      added = c.in_ok-print_answer.ensures.printed;
    })

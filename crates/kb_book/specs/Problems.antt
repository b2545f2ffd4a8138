-- What is to be completed of a presentation.
use Rattle.std.specs.Prelude.{ℕ}
use Rattle.kb_word.specs.Presentations.{PresentationParts}
use Rattle.kb_word.specs.Relations.{relations_of}
use Rattle.kb_machine.specs.States.{Problem}

-- the presentation's order and defining relations, to be completed within limits of lines and of letters of a left side
abbrev pub problem_of : PresentationParts → ℕ → ℕ → Problem
problem_of parts most_lines most_letters = record {
  order = parts.order;
  relations = relations_of parts.inverses parts.equations;
  most_lines = most_lines;
  most_letters = most_letters;
}

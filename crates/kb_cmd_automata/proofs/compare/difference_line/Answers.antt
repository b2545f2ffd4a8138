use Rattle.std.proofs.Common.{◌∙◌, ap, ◌≡◌, ◌++◌, [], ◌∷◌}
use Rattle.kb_cmd_automata.proofs.PrintLemmas.{word-line, pair-line}
use Rattle.kb_cmd_automata.proofs.compare.difference_line.Goals.{in-Plain+in_ok-word_of-in-Plain+in_ok-print_word-in-Plain, in-Pair+in_ok-u-in-Pair+in_ok-print_word-in-Pair+in_ok-push-in-Pair+in_ok-print_word-in-Pair-2}
use Rattle.kb_cmd_automata.proofs.compare.difference_line.Goals as goal

pub returns : goal.returns
returns c =
    let names = c.args.names.now in
    let line = c.push-2.new.self.items in
    let ends : line ≡ c.match-alphabet.line.items ++ 10 ∷ [] = c.in_ok-push.ensures.items in
    elim c.match-alphabet.branch [
      | in-Plain+in_ok-word_of-in-Plain+in_ok-print_word-in-Plain w ↦
          word-line names c.args.alphabet w.in-Plain.field-0 c.args.text.now w.in_ok-word_of-in-Plain.field-0 c.in_ok-line.line.items c.match-alphabet.line.items line w.in-Plain.is
          w.in_ok-word_of-in-Plain.ensures c.in_ok-line.ensures.items (ap (λ l. l.items) w.line-is ∙ w.in_ok-print_word-in-Plain.ensures.printed) ends
      | in-Pair+in_ok-u-in-Pair+in_ok-print_word-in-Pair+in_ok-push-in-Pair+in_ok-print_word-in-Pair-2 w ↦
          pair-line names c.args.alphabet w.in-Pair.n c.args.text.now w.in_ok-u-in-Pair.u w.in_ok-u-in-Pair.v c.in_ok-line.line.items w.print_word-in-Pair.new.out.items
          w.push.new.self.items c.match-alphabet.line.items line w.in-Pair.is
          w.in_ok-u-in-Pair.ensures c.in_ok-line.ensures.items w.in_ok-print_word-in-Pair.ensures.printed w.in_ok-push-in-Pair.ensures.items
          (ap (λ l. l.items) w.line-is ∙ w.in_ok-print_word-in-Pair-2.ensures.printed) ends
    ]

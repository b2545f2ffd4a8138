use Rattle.std.proofs.Common.{◌≡◌, ℕ, List, length, drop, sym, subst}
use Rattle.std.specs.Prelude.{OnOk}
use Rattle.std.proofs.lemmas.Result.{on_ok_weaker}
use Rattle.kb_word.specs.Presentations.{parts_of}
use Rattle.kb_word.specs.Relations.{IsOver}
use Rattle.kb_word.specs.Rewriting.{NormalForm}
use Rattle.kb_coset.specs.Marked.{marked_order, marked_parts, marked_word, relations}
use Rattle.kb_coset.specs.CosetWords.{Cosets, IsLeastOf}
use Rattle.kb_coset.proofs.CosetAnswers.{least_behind}
use Rattle.kb_coset.proofs.coset_words.CosetWordsAnswerer.answer.Goals as goal

pub returns : goal.returns
returns c =
    let inside = c.self.inside in
    let presentation = inside.reader.presentation in
    let cosets : Cosets = record { parts = parts_of presentation; generators = inside.generators.items } in
    let marked = relations (marked_parts presentation.n cosets.generators cosets.parts) in
    let rules = inside.index.rules in
    let word = c.args.word.now in
    let end = c.reduce.new.w in
    let N : List ℕ → Type 0 = λ w. NormalForm rules w end in
    let normal = subst N c.in_ok-add_marker.ensures c.in_ok-reduce.ensures.ok in
    let least =
    c.reduced_complete_systems_are_complete.ensures.least (marked_order presentation.order) marked rules (marked_word presentation.n word) end
    c.self.invariant.reduced normal in
    let Over : Cosets → Type 0 = λ it. IsOver (length it.parts.names) word in
    let over = subst Over (sym c.self.view_is) c.requires.over in
    let behind = least_behind presentation.n cosets rules word end presentation.is_presentation c.self.invariant over least in
    let Answers : Cosets → Type 0 = λ it. OnOk c.remove_marker.result (IsLeastOf it word c.remove_marker.new.word) in
    let Behind : List ℕ → Type 0 = λ m. IsLeastOf cosets word m in
    subst Answers c.self.view_is
    (on_ok_weaker c.remove_marker.result (λ (is : c.remove_marker.new.word ≡ drop 1 end). subst Behind (sym is) behind) c.remove_marker.ensures)

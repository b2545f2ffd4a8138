use Rattle.std.proofs.Common.{◌≡◌, false, sym, ◌∙◌, true≢false, rules}
use Rattle.kb_word.specs.Rewriting.{NormalForm}
use Rattle.kb_proof.proofs.Leaving.{leaves_not}
use Rattle.kb_proof.proofs.verifying.earlier.EarlierRules.leave.Goals as goal

pub returns-clause-no : goal.returns-clause-no
returns-clause-no c = λ left.
    let answer : c.eq.result ≡ false = cc in
    let apart : c.reduce.new.w ≡ c.args.word.now → ⊥ = λ same. true≢false (sym (c.eq.ensures.same.1 same) ∙ answer) in
    let word : c.assign.new.self ≡ c.args.word.now = c.in_ok-assign.ensures.ok in
    let normal : NormalForm c.args.self.now.rules c.args.word.now c.reduce.new.w = search rules in
    leaves_not normal apart

use Rattle.std.proofs.Common.{◌↔◌, ℕ, Bool, nat_eq, IsTrue, length, sym, ap, ◌∙◌, subst}
use Rattle.kb_fsadet.specs.SubsetConstruction.{is_member}
use Rattle.kb_fsadet.proofs.Members.{empty_members}
use Rattle.kb_fsadet.proofs.state_set.StateSet.is_empty.Goals as goal

pub returns : goal.returns
returns c =
    let count = c.self.inside.members.ok.0 ∙ ap length c.self.view_is in
    let P : Bool → Type 0 = λ empty. IsTrue empty ↔ ((state : ℕ) → ¬ IsTrue (is_member c.args.self.now state)) in
    subst P (sym (c.is_empty.ensures ∙ ap (λ n. nat_eq n 0) count)) (empty_members c.args.self.now)

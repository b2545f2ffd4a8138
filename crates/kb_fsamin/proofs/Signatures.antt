-- Signatures are equal where they say the same, and what a signature says of a state.
use Rattle.std.proofs.Common.{◌≡◌, ℕ, ◌&&◌, nat_eq, refl, ap, ◌∙◌}
use Rattle.std.specs.Bool.{Decides}
use Rattle.std.proofs.lemmas.Bool.Decides.{Decides-eqb, Decides-and, Decides-like}
use Rattle.std.proofs.lemmas.Slice.Eq.{slice_eq-Decides}
use Rattle.kb_fsa.specs.Table.{Moves}
use Rattle.kb_fsamin.specs.declared.rounds.Signature.{Signature}
use Rattle.kb_fsamin.specs.contracts.rounds.SignaturePartialEq.TheImpl.{eq-value}
use Rattle.kb_fsamin.specs.Rounds.{sight_of}

pub pair_is : {X Y : Type 0} (a b : X × Y) → a.0 ≡ b.0 → a.1 ≡ b.1 → a ≡ b
pair_is {X} {Y} a b one two = ap (λ (x : X). (x, a.1)) one ∙ ap (λ (y : Y). (b.0, y)) two

pub moves_decide : (a b : ℕ × ℕ) → Decides (nat_eq a.0 b.0 && nat_eq a.1 b.1) (a ≡ b)
moves_decide a b =
    Decides-like _ (λ both. pair_is a b both.0 both.1) (λ is. (ap (λ (m : ℕ × ℕ). m.0) is, ap (λ (m : ℕ × ℕ). m.1) is))
    (Decides-and _ _ (Decides-eqb a.0 b.0) (Decides-eqb a.1 b.1))

pub signatures_decide : (a b : Signature) → Decides (eq-value.it a b) (sight_of a ≡ sight_of b)
signatures_decide a b =
    Decides-like _ (λ both. pair_is (sight_of a) (sight_of b) both.0 both.1)
    (λ is. (ap (λ (s : ℕ × Moves). s.0) is, ap (λ (s : ℕ × Moves). s.1) is))
    (Decides-and _ _ (Decides-eqb a.class b.class) (slice_eq-Decides moves_decide a.moves.items b.moves.items _ refl))

-- What the determinised automaton says of the words that its sets of states stand for.
use Rattle.std.proofs.Common.{◌↔◌, ℕ, List, Result}
use Rattle.std.specs.Result.{IfOk}
use Rattle.std.proofs.lemmas.Result.{IfOk-weaker}
use Rattle.kb_fsa.specs.Language.{Automaton, Accepts}
use Rattle.kb_fsadet.specs.Nondeterministic.{Nondeterministic, AcceptsSomehow}

pub language_of : {E : Type 0} (r : Result Automaton E) (nfa : Nondeterministic) (In : List ℕ → Type 0)
    → IfOk r (λ fsa. (text : List ℕ) → Accepts fsa text ↔ AcceptsSomehow nfa text)
    → ((text : List ℕ) → AcceptsSomehow nfa text ↔ In text)
    → IfOk r (λ fsa. (text : List ℕ) → Accepts fsa text ↔ In text)
language_of r nfa In determined same =
    IfOk-weaker r (λ (fsa : Automaton). (text : List ℕ) → Accepts fsa text ↔ AcceptsSomehow nfa text)
    (λ (fsa : Automaton). (text : List ℕ) → Accepts fsa text ↔ In text)
    (λ fsa accepts text. (λ has. (same text).0 ((accepts text).0 has), λ has. (accepts text).1 ((same text).1 has)))
    determined

-- Reading a word for its meaning alone: its tree is there and isn't kept.
use Rattle.std.specs.Prelude.{◌≡◌, ℕ, IsTrue, List, Bool, Option, Result, Ok, Err}
use Rattle.kb_lexing.specs.Token.{Token}
use Rattle.kb_record.specs.Tree.{Factors}
use Rattle.kb_record.specs.Meaning.{WordFault, and_then, product, product_meaning}
use Rattle.kb_record.specs.Faults.{Evaluates}
use Rattle.kb_record.specs.Reading.{Reading, read, Reads}
use Rattle.kb_record.specs.declared.error.WordError.{WordError}
use Rattle.kb_record.specs.declared.cursor.Stop.{Stop}

-- what the code answers of a tree that is read, and the tokens that it leaves
abbrev pub ReadsFor : {A B : Type 0} → Reading A → (A → B → Type 0) → Result B Stop → List Token
    → Type 0
ReadsFor reading Means (Ok found) rest = (tree : _) × (reading ≡ read tree rest) × Means tree found
ReadsFor reading Means (Err stop) rest = Reads reading (λ tree. tree) (Err stop) rest

-- what is read is there, and nothing is kept of it
abbrev pub Passes : {A B : Type 0} → Reading A → Result B Stop → List Token → Type 0
Passes reading result rest = ReadsFor reading (λ tree done. Unit {0}) result rest

-- the meaning was evaluated, where it was asked for
abbrev pub Evaluated : {A : Type 0} → Bool → (A → Result (List ℕ) WordFault) → A
    → Result (List ℕ) WordError → Type 0
Evaluated wanted meaning tree outcome = IsTrue wanted → Evaluates (meaning tree) outcome

-- an outcome behind the product so far: the first fault stays
abbrev pub Follows : Result (List ℕ) WordError → Result (List ℕ) WordError
    → Result (List ℕ) WordError → Type 0
Follows (Ok so_far) next result =
    (meaning : Result (List ℕ) WordFault) → Evaluates meaning next
    → Evaluates (and_then meaning (product so_far)) result
Follows (Err fault) next result = result ≡ Err fault

-- what the whole means where others are still to come: what they mean behind the product so far, or the first fault
abbrev pub GoesOn : List (List ℕ) → List (Option ℕ) → Result (List ℕ) WordError → Factors
    → Result (List ℕ) WordFault → Type 0
GoesOn names inverses (Ok so_far) others whole =
    whole ≡ product_meaning names inverses so_far others
GoesOn names inverses (Err fault) others whole = Evaluates whole (Err fault)

-- What the normal forms of a pair's words say of it.
use Rattle.std.proofs.Common.{◌≡◌, ◌≢◌, List, ℕ, sym, subst}
use Rattle.kb_word.specs.Words.{Pair}
use Rattle.kb_word.specs.Rewriting.{NormalForm}
use Rattle.kb_word.specs.Overlap.{IsResolved, IsUnresolved}
use Rattle.kb_overlap.specs.declared.pair.Joinability.{Joinability}
use Rattle.kb_overlap.specs.declared.pair.Joinability.TheVariants.{Joined, Apart}
use Rattle.kb_overlap.specs.Joining.{JoinSays}

pub says_joined : (rules : List Pair) (pair : Pair) (u v : List ℕ) (answer : Joinability) → NormalForm rules pair.0 u → NormalForm rules pair.1 v
    → u ≡ v → answer ≡ Joined → JoinSays rules pair (u, v) answer
says_joined rules pair u v answer left right same is =
    subst (JoinSays rules pair (u, v)) (sym is)
    (record { joint = v; left = subst (λ (w : List ℕ). NormalForm rules pair.0 w) same left; right = right })

pub says_apart : (rules : List Pair) (pair : Pair) (u v : List ℕ) (answer : Joinability) → NormalForm rules pair.0 u → NormalForm rules pair.1 v
    → u ≢ v → answer ≡ Apart → JoinSays rules pair (u, v) answer
says_apart rules pair u v answer left right different is =
    subst (JoinSays rules pair (u, v)) (sym is) (record { left = left; right = right; different = different })

-- what is said of a pair by some rules is said by the same rules under another name
pub apart_given : (mine rules : List Pair) (pair reduced : Pair) (answer : Joinability) → mine ≡ rules → answer ≡ Apart
    → JoinSays mine pair reduced answer → IsUnresolved rules pair reduced.0 reduced.1
apart_given mine rules pair reduced answer e f says =
    let P : Joinability → Type 0 = λ given. JoinSays mine pair reduced given in
    let Q : List Pair → Type 0 = λ list. IsUnresolved list pair reduced.0 reduced.1 in
    subst Q e (subst P f says)

pub joined_given : (mine rules : List Pair) (pair reduced : Pair) (answer : Joinability) → mine ≡ rules → answer ≡ Joined
    → JoinSays mine pair reduced answer → IsResolved rules pair
joined_given mine rules pair reduced answer e f says =
    let P : Joinability → Type 0 = λ given. JoinSays mine pair reduced given in
    let Q : List Pair → Type 0 = λ list. IsResolved list pair in
    subst Q e (subst P f says)

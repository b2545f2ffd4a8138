use Rattle.std.proofs.Common.{ℕ, zero, suc, ◌<◌, List, [], ◌∷◌, get_or, refl, arith}
use Rattle.std.specs.Prelude.{Result, Ok, Err, MatchResult, IsOk}
use Rattle.std.specs.List.{AllByRecursion}
use Rattle.std.proofs.lemmas.Str.{IsUtf8-from_ascii}
use Rattle.kb_lexing.proofs.lexer.ascii.Goals as goal

-- each byte below 128, by its place
ascii_at : (bytes : List ℕ) → AllByRecursion (λ byte. byte < 128) bytes → (i : ℕ) → get_or bytes i 0 < 128
ascii_at [] h i = omega arith
ascii_at (b ∷ bytes) h zero = h.0
ascii_at (b ∷ bytes) h (suc i) = ascii_at bytes h.1 i

ok_from : {T E : Type 0} (r : Result T E) (P : T → Type 0) (Q : Type 0) (R : E → Type 0) → MatchResult r P (λ e. ¬ Q × R e) → Q → IsOk r
ok_from (Ok x) P Q R h q = refl
ok_from (Err e) P Q R h q = absurd (h.0 q)

pub unwrap-requires : goal.unwrap-requires
unwrap-requires c =
    ok_from _ _ _ _ c.from_utf8.ensures.cases (IsUtf8-from_ascii c.args.bytes.now (ascii_at _ c.requires))

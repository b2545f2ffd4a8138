-- States of a cascade product are the same where both their parts are.
use Rattle.std.specs.Prelude.{◌≡◌, ◌&&◌, true, Bool, nat_eq}
use Rattle.std.proofs.Common.{ap, ◌∙◌}
use Rattle.std.proofs.lemmas.Bool.{and_parts, eqb-true}
use Rattle.kb_certificates.specs.declared.cascade.led.Led.{Led}

pub same_led : {S : Type 0} (eq : S → S → Bool)
    → ((state other : S) → eq state other ≡ true → state ≡ other)
    → (both other : Led S)
    → (nat_eq both.leader other.leader && eq both.follower other.follower) ≡ true → both ≡ other
same_led {S} eq same both other tie =
    let parts =
    and_parts (nat_eq both.leader other.leader) (eq both.follower other.follower) tie in
    let leaders = eqb-true both.leader other.leader parts.0 in
    let followers = same both.follower other.follower parts.1 in
    ap (λ x. record { leader = x; follower = both.follower }) leaders
    ∙ ap (λ (y : S). record { leader = other.leader; follower = y }) followers

-- Certificates that have an equality.
use Rattle.kb_structure.specs.declared.cert.Cert.{Cert}
use Rattle.kb_structure.specs.declared.cert.Cert.TheVariants.{N1, N2, N3, N4, N5, N6, N7, N8}

-- the certificate is of one of the kinds N4 to N8, which alone are found against the automata of differences
abbrev pub HasEquality : Cert → Type 0
HasEquality (N1 u) = ⊥
HasEquality (N2 x u v) = ⊥
HasEquality (N3 x u v) = ⊥
HasEquality (N4 x u) = Unit {0}
HasEquality (N5 x u v other) = Unit {0}
HasEquality (N6 x u) = Unit {0}
HasEquality (N7 x u v) = Unit {0}
HasEquality (N8 number u a b) = Unit {0}

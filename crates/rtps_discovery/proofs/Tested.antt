-- The test of Addressed, fact by fact.
use Rattle.std.proofs.Common.{Bool, true, false, not, ◌&&◌, IsTrue, IsFalse, refl}
use Rattle.rtps_discovery.specs.Addressed.{AddressedIsTested, is_discovery, is_for, writer_of}

-- what three tests say where all of them are met
three : (a b c : Bool) → IsTrue (not a && (b && c)) → IsFalse a × IsTrue b × IsTrue c
three false true true h = (refl, refl, refl)
three false true false h = cc
three false false c h = cc
three true b c h = cc

all_three : (a b c : Bool) → IsFalse a → IsTrue b → IsTrue c → IsTrue (not a && (b && c))
all_three false true true f t u = refl
all_three false true false f t u = cc
all_three false false c f t u = cc
all_three true b c f t u = cc

pub addressed_is_tested : AddressedIsTested
addressed_is_tested is_matched entity e = (
  λ h. let facts = three (is_discovery e.writer) (is_matched (writer_of e)) (is_for e.reader entity) h in
      record { others = facts.0; matched = facts.1; meant = facts.2 },
  λ a. all_three (is_discovery e.writer) (is_matched (writer_of e)) (is_for e.reader entity) a.others a.matched a.meant,
)

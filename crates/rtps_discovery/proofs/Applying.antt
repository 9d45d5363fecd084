-- Announcements one after the other.
use Rattle.std.proofs.Common.{◌≡◌, List, [], ◌∷◌, ◌++◌, append_assoc, refl, sym, ap, ◌∙◌}
use Rattle.std.proofs.lemmas.List.{append-nil}
use Rattle.rtps_discovery.specs.Announcement.{Announcement}
use Rattle.rtps_discovery.specs.Changes.{ChangeAt, changes, changes_run, known_run}
use Rattle.rtps_discovery.specs.Known.{Known, known_after}
use Rattle.rtps_discovery.specs.Kept.{Applies, AppliesAll, IsKnown, RegistryView}

-- some announcements are applied: with those that are left it comes to what all come to
pub record Onward (k : Known) (left all : List Announcement) (now : RegistryView) (earlier told : List ChangeAt) : Type 0 where
  pub known : Known
  pub is : IsKnown known now
  pub run : known_run known left ≡ known_run k all
  pub changes : told ++ changes_run known left ≡ earlier ++ changes_run k all

pub starts : (k : Known) (all : List Announcement) (now : RegistryView) (earlier : List ChangeAt) → IsKnown k now → Onward k all all now earlier earlier
starts k all now earlier is = record { known = k; is = is; run = refl; changes = refl }

run_both : (k : Known) (first more : List Announcement) → known_run k (first ++ more) ≡ known_run (known_run k first) more
run_both k [] more = refl
run_both k (a ∷ first) more = run_both (known_after k a) first more

changes_both : (k : Known) (first more : List Announcement) → changes_run k (first ++ more) ≡ changes_run k first ++ changes_run (known_run k first) more
changes_both k [] more = refl
changes_both k (a ∷ first) more =
    ap (λ l. changes k (known_after k a) ++ l) (changes_both (known_after k a) first more)
    ∙ sym (append_assoc (changes k (known_after k a)) (changes_run (known_after k a) first) (changes_run (known_run (known_after k a) first) more))

pub some_more : (k : Known) (said left all : List Announcement) (now new : RegistryView) (earlier told more : List ChangeAt) → AppliesAll said now new told more → Onward k (said ++ left) all now earlier told → Onward k left all new earlier more
some_more k said left all now new earlier told more applies on = record {
  known = known_run on.known said;
  is = applies.known on.known on.is;
  run = sym (run_both on.known said left) ∙ on.run;
  changes =
      ap (λ l. l ++ changes_run (known_run on.known said) left) (applies.changes on.known on.is)
      ∙ append_assoc told (changes_run on.known said) (changes_run (known_run on.known said) left)
      ∙ ap (λ l. told ++ l) (sym (changes_both on.known said left)) ∙ on.changes;
}

-- one announcement, or none
pub one : (a : Announcement) (old new : RegistryView) (earlier all : List ChangeAt) → Applies a old new earlier all → AppliesAll (a ∷ []) old new earlier all
one a old new earlier all applies = record {
  known = applies.known;
  changes = λ k is. applies.changes k is ∙ ap (λ l. earlier ++ l) (sym (append-nil (changes k (known_after k a))));
}

pub none : (old : RegistryView) (earlier : List ChangeAt) → AppliesAll [] old old earlier earlier
none old earlier = record { known = λ k is. is; changes = λ k is. sym (append-nil earlier) }

pub ends : (all : List Announcement) (old now : RegistryView) (earlier told : List ChangeAt) → ((k : Known) → IsKnown k old → Onward k [] all now earlier told) → AppliesAll all old now earlier told
ends all old now earlier told on = record {
  known = λ k is. let o = on k is in rw (sym o.run) o.is;
  changes = λ k is. let o = on k is in sym (append-nil told) ∙ o.changes;
}

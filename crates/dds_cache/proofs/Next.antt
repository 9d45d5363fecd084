-- The first entry that no call answered.
use Rattle.std.proofs.Common.{◌≡◌, ℕ, suc, ◌≤◌, Bool, true, false, List, [], ◌∷◌, map, length, Some, None, refl, sym, ap, ◌∙◌, arith}
use Rattle.std.specs.Prelude.{Option, filter, if◌then◌else◌, not, ◌&&◌, slice_get}
use Rattle.std.specs.Map.{lookup}
use Rattle.std.proofs.lemmas.List.{length-map}
use Rattle.dds_cache.specs.declared.choose.Chosen.{Chosen}
use Rattle.dds_cache.specs.declared.entry.Entry.{Entry}
use Rattle.dds_cache.specs.Answered.{answered, unread}
use Rattle.dds_cache.specs.Cache.{first_by}
use Rattle.dds_cache.specs.Calls.{Done, WasTaken}
use Rattle.dds_cache.specs.Effects.{HandsOver, chosen_by, looked, passes, shown_as, with_found, with_shown}
use Rattle.dds_cache.specs.Standing.{CacheIndex, StandsBy, is_number, not_yet, numbers}
use Rattle.dds_cache.proofs.Answering.{picked, took, took_shown}
use Rattle.dds_cache.proofs.Choosing.{from_numbers, looked_all}

pub head_of : {X : Type 0} (l : List X) (x : X) → slice_get l 0 ≡ Some x → (rest : List X) × (l ≡ x ∷ rest)
head_of [] x h = absurd cc
head_of (y ∷ ys) x h = (ys, ap (λ z. z ∷ ys) (let e : y ≡ x = cc in e))

head_passes : {X : Type 0} (q : X → Bool) (l : List X) (x : X) (rest : List X) → filter q l ≡ x ∷ rest → q x ≡ true
head_passes q [] x rest h = absurd cc
head_passes q (y ∷ ys) x rest h = by_test (q y) refl h (head_passes q ys x rest)
  where
    by_test : (b : Bool) → q y ≡ b → (if b then y ∷ filter q ys else filter q ys) ≡ x ∷ rest → (filter q ys ≡ x ∷ rest → q x ≡ true) → q x ≡ true
    by_test true is h more = let e : y ≡ x = cc in ap q (sym e) ∙ is
    by_test false is h more = more h

looked_short : {M : Type 0} (es : List (ℕ × Entry M)) (ns : List ℕ) → length (looked es ns) ≤ length ns
looked_short es [] = omega arith
looked_short {M} es (n ∷ ns) = by_found (lookup (is_number n) es) (looked_short es ns)
  where
    by_found : (o : Option (Entry M)) → length (looked es ns) ≤ length ns → length (with_found n o (looked es ns)) ≤ suc (length ns)
    by_found None h = omega (arith, h)
    by_found (Some e) h = omega (arith, h)

pub none_first : {X : Type 0} (l : List X) → slice_get l 0 ≡ None → l ≡ []
none_first [] h = refl
none_first (x ∷ xs) h = absurd cc

module _ {M : Type 0} (past : List (Done M)) (p : CacheIndex M) (s : StandsBy past p) where
  abbrev fresh : ℕ × Entry M → Bool
  fresh = passes p.find unread

  firsts : (ns : List ℕ) → numbers (filter not_yet p.entries) ≡ ns → first_by fresh 1 (looked p.entries ns) ≡ first_by fresh 1 p.entries
  firsts ns is = from_numbers p.find unread 1 p.entries ns refl (sym is) s.rising

  -- there is none
  pub nothing : (q : CacheIndex M) → numbers (filter not_yet p.entries) ≡ [] → HandsOver [] p q → (answered p.keep past 1 unread ≡ []) × StandsBy (WasTaken 1 unread ∷ past) q
  nothing q none h =
      let is : [] ≡ picked past p s unread 1 = ap (map (chosen_by p.find)) (firsts [] none) in
      (sym (took_shown past p s unread 1 [] is), took past p s unread 1 [] q is h)

  -- what is found at its number
  pub record First (n : ℕ) : Type 0 where
    pub entry : Entry M
    pub found : lookup (is_number n) p.entries ≡ Some entry
    pub picked : (c : Chosen) → c ≡ chosen_by p.find (n, entry) → c ∷ [] ≡ map (chosen_by p.find) (first_by fresh 1 p.entries)

  and_true : (b : Bool) → b ≡ true → (b && (true && true)) ≡ true
  and_true true h = refl
  and_true false h = h

  pub first_unread : (n : ℕ) (ns : List ℕ) → numbers (filter not_yet p.entries) ≡ n ∷ ns → First n
  first_unread n ns is = by_found (lookup (is_number n) p.entries) refl
    where
      all : filter not_yet p.entries ≡ with_found n (lookup (is_number n) p.entries) (looked p.entries ns)
      all = sym (looked_all not_yet 0 p.entries s.rising) ∙ ap (looked p.entries) is

      by_found : (o : Option (Entry M)) → lookup (is_number n) p.entries ≡ o → First n
      by_found None e = absurd (missing (filter not_yet p.entries) is (all ∙ ap (λ o. with_found n o (looked p.entries ns)) e))
        where
          missing : (l : List (ℕ × Entry M)) → numbers l ≡ n ∷ ns → l ≡ looked p.entries ns → ⊥
          missing l a b = omega (arith, looked_short p.entries ns, ap (length {A = ℕ}) a, length-map l (λ (e : ℕ × Entry M). e.0), ap (length {A = ℕ × Entry M}) b)
      by_found (Some entry) e =
          let cut : filter not_yet p.entries ≡ (n, entry) ∷ looked p.entries ns = all ∙ ap (λ o. with_found n o (looked p.entries ns)) e in
          let passed : fresh (n, entry) ≡ true = and_true (not entry.is_read) (head_passes not_yet p.entries (n, entry) (looked p.entries ns) cut) in
          let first : first_by fresh 1 p.entries ≡ (n, entry) ∷ [] = sym (firsts (n ∷ ns) is) ∙ ap (λ o. first_by fresh 1 (with_found n o (looked p.entries ns))) e ∙ ap (λ b. if b then (n, entry) ∷ first_by fresh 0 (looked p.entries ns) else first_by fresh 1 (looked p.entries ns)) passed ∙ ap (λ l. (n, entry) ∷ l) (none_more (looked p.entries ns)) in
          record { entry = entry; found = e; picked = λ c same. ap (λ x. x ∷ []) same ∙ ap (map (chosen_by p.find)) (sym first) }
        where
          none_more : (l : List (ℕ × Entry M)) → first_by fresh 0 l ≡ []
          none_more [] = refl
          none_more (x ∷ xs) = refl

  -- it is always found
  pub never : (n : ℕ) (ns : List ℕ) → numbers (filter not_yet p.entries) ≡ n ∷ ns → lookup (is_number n) p.entries ≡ None → ⊥
  never n ns is none = let f = first_unread n ns is in let bad : Some f.entry ≡ None = sym f.found ∙ none in cc

  pub taken_next : (n : ℕ) (ns : List ℕ) → numbers (filter not_yet p.entries) ≡ n ∷ ns → (e : Entry M) → lookup (is_number n) p.entries ≡ Some e → (c : Chosen) → c ≡ chosen_by p.find (n, e) → (q : CacheIndex M) → HandsOver (c ∷ []) p q
      → (shown_as e c ∷ [] ≡ answered p.keep past 1 unread) × StandsBy (WasTaken 1 unread ∷ past) q
  taken_next n ns is e found c same q h =
      let f = first_unread n ns is in
      let twice : Some e ≡ Some f.entry = sym found ∙ f.found in
      let eq : e ≡ f.entry = cc in
      let all : c ∷ [] ≡ picked past p s unread 1 = f.picked c (same ∙ ap (λ x. chosen_by p.find (n, x)) eq) in
      let number : c.number ≡ n = ap (λ (x : Chosen). x.number) same in
      (sym (ap (λ o. with_shown c o []) (ap (λ m. lookup (is_number m) p.entries) number ∙ found)) ∙ took_shown past p s unread 1 (c ∷ []) all, took past p s unread 1 (c ∷ []) q all h)

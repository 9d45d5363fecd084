-- Matches that begin one after the other.
use Rattle.std.proofs.Common.{◌≡◌, Bool, true, false, ◌&&◌, if◌then◌else◌, List, [], ◌∷◌, ◌++◌, map, Option, Some, refl, sym, ap, ◌∙◌, subst, true≢false}
use Rattle.std.specs.Ordering.{is_eq}
use Rattle.std.specs.declared.cmp.Ordering.{Ordering}
use Rattle.std.specs.declared.cmp.Ordering.TheVariants.{Less, Equal, Greater}
use Rattle.std.proofs.lemmas.List.{map_push}
use Rattle.std.proofs.lemmas.Slice.Eq.{bytes_eq-Decides}
use Rattle.rtps_types.specs.Order.{guid_order}
use Rattle.rtps_types.specs.declared.identity.Guid.{Guid}
use Rattle.rtps_types.specs.declared.identity.EntityId.{EntityId}
use Rattle.rtps_types.specs.declared.identity.GuidPrefix.{GuidPrefix}
use Rattle.rtps_types.specs.declared.locator.Locator.{Locator}
use Rattle.rtps_types.specs.declared.traffic.WriterFacts.{WriterFacts}
use Rattle.rtps_proxy.specs.Kept.{ProxyView, Pairing}
use Rattle.rtps_proxy.specs.Matches.{AllStand, Match, begun, fresh, match_with, same_guid}
use Rattle.rtps_proxy.proofs.Matching.{exact, same_is, tie}
use Rattle.rtps_reader.specs.Reader.{Facts, all_begun, first_matches, pairing_of}
use Rattle.rtps_reader.specs.Standing.{facts_in}

begun_push : (ms : List Match) (ws : List Pairing) (w : Pairing) → all_begun ms (ws ++ w ∷ []) ≡ begun (fresh w) (all_begun ms ws)
begun_push ms [] w = refl
begun_push ms (x ∷ ws) w = begun_push (begun (fresh x) ms) ws w

-- one fixed match more
pub first_more : {A : Type 0} (own : GuidPrefix) (entity : EntityId) (is_reliable : Bool) (facts : List (WriterFacts A)) (one : WriterFacts A)
    → first_matches own entity is_reliable (map facts_in (facts ++ one ∷ [])) ≡ begun (fresh (pairing_of own entity is_reliable (facts_in one))) (first_matches own entity is_reliable (map facts_in facts))
first_more own entity is_reliable facts one =
    ap (λ (l : List Facts). all_begun [] (map (pairing_of own entity is_reliable) l)) (map_push facts_in facts one)
    ∙ ap (all_begun []) (map_push (pairing_of own entity is_reliable) (map facts_in facts) (facts_in one))
    ∙ begun_push [] (map (pairing_of own entity is_reliable) (map facts_in facts)) (pairing_of own entity is_reliable (facts_in one))

-- one fixed match more is kept
pub begun_more : {A : Type 0} (own own1 : GuidPrefix) (entity entity1 : EntityId) (b b1 : Bool) (facts taken : List (WriterFacts A)) (one : WriterFacts A) (locators : List Locator) (ss : List (Guid × ProxyView))
    → own1 ≡ own → entity1 ≡ entity → b1 ≡ b → locators ≡ one.locators → taken ≡ facts ++ one ∷ []
    → AllStand (begun (fresh (pairing_of own1 entity1 b1 (one.writer, locators))) (first_matches own entity b (map facts_in facts))) ss → AllStand (first_matches own entity b (map facts_in taken)) ss
begun_more own own1 entity entity1 b b1 facts taken one locators ss eo ee eb el is all =
    let before = first_matches own entity b (map facts_in facts) in
    subst (λ (ms : List Match). AllStand ms ss)
    (ap (λ k. begun (fresh (pairing_of k entity1 b1 (one.writer, locators))) before) eo
    ∙ ap (λ k. begun (fresh (pairing_of own k b1 (one.writer, locators))) before) ee
    ∙ ap (λ k. begun (fresh (pairing_of own entity k (one.writer, locators))) before) eb
    ∙ ap (λ (k : List Locator). begun (fresh (pairing_of own entity b (one.writer, k))) before) el
    ∙ sym (first_more own entity b facts one)
    ∙ ap (λ l. first_matches own entity b (map facts_in l)) (sym is))
    all

pub same_self : (w : Guid) → same_guid w w ≡ true
same_self w = both _ _ ((bytes_eq-Decides w.prefix.0 w.prefix.0).1 refl) ((bytes_eq-Decides w.entity.0 w.entity.0).1 refl)
  where
    both : (x y : Bool) → x ≡ true → y ≡ true → (x && y) ≡ true
    both true y h k = k
    both false y h k = absurd cc

-- two tests in either order
pub swapped : (a b : Bool) (x y z : Option Match) → (a ≡ true → b ≡ true → x ≡ y) → (if a then x else (if b then y else z)) ≡ (if b then y else (if a then x else z))
swapped true true x y z h = h refl refl
swapped true false x y z h = refl
swapped false b x y z h = refl

-- a match that begins is the one with its writer, whatever there was before
pub match_begun : (g : Guid) (m : Match) (ms : List Match) → match_with g (begun m ms) ≡ (if same_guid m.pairing.writer g then Some m else match_with g ms)
match_begun g m [] = refl
match_begun g m (n ∷ ms) = by_order (guid_order m.pairing.writer n.pairing.writer) refl (match_begun g m ms)
  where
    by_order : (o : Ordering) → guid_order m.pairing.writer n.pairing.writer ≡ o → match_with g (begun m ms) ≡ (if same_guid m.pairing.writer g then Some m else match_with g ms)
        → match_with g (begun m (n ∷ ms)) ≡ (if same_guid m.pairing.writer g then Some m else match_with g (n ∷ ms))
    by_order Less is rest = rw is refl
    by_order Equal is rest = rw is (by_test (same_guid m.pairing.writer g) refl)
      where
        by_test : (t : Bool) → same_guid m.pairing.writer g ≡ t → (if t then Some m else match_with g ms) ≡ (if t then Some m else match_with g (n ∷ ms))
        by_test true e = refl
        by_test false e =
            let other : same_guid n.pairing.writer g ≡ false = ap (λ w. same_guid w g) (exact m.pairing.writer n.pairing.writer is) ∙ e in
            rw other refl
    by_order Greater is rest =
        rw is (ap (λ o. if same_guid n.pairing.writer g then Some n else o) rest
        ∙ swapped (same_guid n.pairing.writer g) (same_guid m.pairing.writer g) (Some n) (Some m) (match_with g ms) (λ this that.
        let apart : false ≡ same_guid n.pairing.writer m.pairing.writer = ap is_eq (sym is) ∙ tie m.pairing.writer n.pairing.writer in
        let one : same_guid n.pairing.writer m.pairing.writer ≡ true = subst (λ w. same_guid n.pairing.writer w ≡ true) (sym (same_is m.pairing.writer g that)) this in
        absurd (true≢false (sym one ∙ sym apart))))

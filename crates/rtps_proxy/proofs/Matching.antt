-- The match with a writer, found among the matches of a reader.
use Rattle.std.proofs.Common.{◌≡◌, ℕ, Bool, true, false, ◌&&◌, List, [], ◌∷◌, Some, None, refl, sym, ap, ◌∙◌, subst}
use Rattle.std.specs.Map.{lookup, remove_entry, set_value}
use Rattle.std.specs.BTreeMap.{insert_entry}
use Rattle.std.specs.Str.{bytes_eq}
use Rattle.std.specs.Ordering.{is_eq, ordering_then}
use Rattle.std.specs.declared.cmp.Ordering.{Ordering}
use Rattle.std.specs.declared.cmp.Ordering.TheVariants.{Less, Equal, Greater}
use Rattle.std.proofs.lemmas.Map.Text.{is_eq-slice_cmp}
use Rattle.std.proofs.lemmas.Slice.Eq.{bytes_eq-Decides}
use Rattle.rtps_types.specs.declared.identity.Guid.{Guid}
use Rattle.rtps_types.specs.Order.{guid_order, octet_order}
use Rattle.rtps_proxy.specs.History.{MatchEvent}
use Rattle.rtps_proxy.specs.Kept.{ProxyView}
use Rattle.rtps_proxy.specs.Effects as proxy
use Rattle.rtps_proxy.specs.Matches.{AllStand, Match, Stands, begun, ended, extended, match_with, same_guid}

eq_then : (a b : Ordering) → is_eq (ordering_then a b) ≡ (is_eq a && is_eq b)
eq_then Less b = refl
eq_then Equal b = refl
eq_then Greater b = refl

turned : (xs ys : List _) → bytes_eq xs ys ≡ bytes_eq ys xs
turned xs ys = by_tests (bytes_eq xs ys) (bytes_eq ys xs) refl refl
  where
    by_tests : (a b : Bool) → bytes_eq xs ys ≡ a → bytes_eq ys xs ≡ b → a ≡ b
    by_tests true true e f = refl
    by_tests false false e f = refl
    by_tests true false e f = sym (sym f ∙ (bytes_eq-Decides ys xs).1 (sym ((bytes_eq-Decides xs ys).0 e)))
    by_tests false true e f = sym e ∙ (bytes_eq-Decides xs ys).1 (sym ((bytes_eq-Decides ys xs).0 f))

-- the order's test of a key is that of the writer
pub tie : (w g : Guid) → is_eq (guid_order w g) ≡ same_guid g w
tie w g =
    eq_then (octet_order w.prefix.0 g.prefix.0) (octet_order w.entity.0 g.entity.0)
    ∙ ap (λ b. b && is_eq (octet_order w.entity.0 g.entity.0)) (is_eq-slice_cmp w.prefix.0 g.prefix.0 ∙ turned w.prefix.0 g.prefix.0)
    ∙ ap (λ b. bytes_eq g.prefix.0 w.prefix.0 && b) (is_eq-slice_cmp w.entity.0 g.entity.0 ∙ turned w.entity.0 g.entity.0)

at_head : (w : Guid) (m : Match) (s : Guid × ProxyView) (b : Bool) → Stands m s → is_eq (guid_order w s.0) ≡ b → same_guid m.pairing.writer w ≡ b
at_head w m s b one e = ap (λ g. same_guid g w) one.writer ∙ sym (tie w s.0) ∙ e

pub not_matched : (w : Guid) (e : MatchEvent) (ms : List Match) (ss : List (Guid × ProxyView)) → AllStand ms ss → lookup (λ k. is_eq (guid_order w k)) ss ≡ None
    → (extended w e ms ≡ ms) × (match_with w ms ≡ None)
not_matched w e [] [] all none = (refl, refl)
not_matched w e [] (s ∷ ss) all none = absurd all
not_matched w e (m ∷ ms) [] all none = absurd all
not_matched w e (m ∷ ms) (s ∷ ss) all none = by_test (is_eq (guid_order w s.0)) refl (not_matched w e ms ss all.1)
  where
    by_test : (b : Bool) → is_eq (guid_order w s.0) ≡ b → (lookup (λ k. is_eq (guid_order w k)) ss ≡ None → (extended w e ms ≡ ms) × (match_with w ms ≡ None))
        → (extended w e (m ∷ ms) ≡ m ∷ ms) × (match_with w (m ∷ ms) ≡ None)
    by_test true is rest = let found : lookup (λ k. is_eq (guid_order w k)) (s ∷ ss) ≡ Some s.1 = rw is refl in absurd cc
    by_test false is rest =
        let left : lookup (λ k. is_eq (guid_order w k)) ss ≡ None = rw is at none in
        rw (at_head w m s false all.0 is) (ap (λ (l : List Match). m ∷ l) (rest left).0, (rest left).1)

-- what stands of the match with a writer, and what stands once an event came for it
pub record Found (w : Guid) (e : MatchEvent) (ms : List Match) (ss : List (Guid × ProxyView)) (p : ProxyView) : Type 0 where
  pub match : Match
  pub is : match_with w ms ≡ Some match
  pub pairing : match.pairing ≡ p.pairing
  pub stands : proxy.StandsAt match.past p
  pub after : (new : ProxyView) → new.pairing ≡ p.pairing → proxy.StandsAt (e ∷ match.past) new → AllStand (extended w e ms) (set_value (λ k. is_eq (guid_order w k)) ss new)

pub matched : (w : Guid) (e : MatchEvent) (ms : List Match) (ss : List (Guid × ProxyView)) (p : ProxyView) → AllStand ms ss → lookup (λ k. is_eq (guid_order w k)) ss ≡ Some p → Found w e ms ss p
matched w e [] [] p all found = absurd cc
matched w e [] (s ∷ ss) p all found = absurd all
matched w e (m ∷ ms) [] p all found = absurd all
matched w e (m ∷ ms) (s ∷ ss) p all found = by_test (is_eq (guid_order w s.0)) refl (matched w e ms ss p all.1)
  where
    by_test : (b : Bool) → is_eq (guid_order w s.0) ≡ b → (lookup (λ k. is_eq (guid_order w k)) ss ≡ Some p → Found w e ms ss p) → Found w e (m ∷ ms) (s ∷ ss) p
    by_test true is rest =
        let this : Some s.1 ≡ Some p = rw is at found in
        let same : s.1 ≡ p = cc in
        let here = at_head w m s true all.0 is in
        record {
          match = m;
          is = rw here refl;
          pairing = all.0.pairing ∙ ap (λ (k : ProxyView). k.pairing) same;
          stands = subst (λ (k : ProxyView). proxy.StandsAt m.past k) same all.0.stands;
          after = λ new pairing stands. rw (here, is) (record { writer = all.0.writer; pairing = all.0.pairing ∙ ap (λ (k : ProxyView). k.pairing) same ∙ sym pairing; stands = stands }, all.1);
        }
    by_test false is rest =
        let left : lookup (λ k. is_eq (guid_order w k)) ss ≡ Some p = rw is at found in
        let more = rest left in
        let here = at_head w m s false all.0 is in
        record {
          match = more.match;
          is = rw here more.is;
          pairing = more.pairing;
          stands = more.stands;
          after = λ new pairing stands. rw (here, is) (all.0, more.after new pairing stands);
        }

and_first : (a b : Bool) → (a && b) ≡ true → a ≡ true
and_first true b h = refl
and_first false b h = absurd cc

and_second : (a b : Bool) → (a && b) ≡ true → b ≡ true
and_second true b h = h
and_second false b h = absurd cc

abbrev guid_from : List ℕ → List ℕ → Guid
guid_from prefix entity = record { prefix = record { 0 = prefix }; entity = record { 0 = entity } }

pub same_is : (a b : Guid) → same_guid a b ≡ true → a ≡ b
same_is a b h =
    let prefixes : a.prefix.0 ≡ b.prefix.0 = (bytes_eq-Decides a.prefix.0 b.prefix.0).0 (and_first _ _ h) in
    let entities : a.entity.0 ≡ b.entity.0 = (bytes_eq-Decides a.entity.0 b.entity.0).0 (and_second (bytes_eq a.prefix.0 b.prefix.0) _ h) in
    ap (λ p. guid_from p a.entity.0) prefixes ∙ ap (guid_from b.prefix.0) entities

pub exact : (w g : Guid) → guid_order w g ≡ Equal → g ≡ w
exact w g e = same_is g w (sym (tie w g) ∙ ap is_eq e)

-- a match that begins stands where its writer has its place
pub begun_stands : (m : Match) (g : Guid) (p : ProxyView) (ms : List Match) (ss : List (Guid × ProxyView)) → Stands m (g, p) → AllStand ms ss → AllStand (begun m ms) (insert_entry guid_order ss g p)
begun_stands m g p [] [] one all = (one, tt)
begun_stands m g p [] (s ∷ ss) one all = absurd all
begun_stands m g p (n ∷ ms) [] one all = absurd all
begun_stands m g p (n ∷ ms) (s ∷ ss) one all = by_order (guid_order m.pairing.writer n.pairing.writer) refl (begun_stands m g p ms ss one all.1)
  where
    same : guid_order g s.0 ≡ guid_order m.pairing.writer n.pairing.writer
    same = ap (λ h. guid_order h s.0) (sym one.writer) ∙ ap (guid_order m.pairing.writer) (sym all.0.writer)

    by_order : (o : Ordering) → guid_order m.pairing.writer n.pairing.writer ≡ o → AllStand (begun m ms) (insert_entry guid_order ss g p)
        → AllStand (begun m (n ∷ ms)) (insert_entry guid_order (s ∷ ss) g p)
    by_order Less e rest = rw (e, same ∙ e) (one, all)
    by_order Equal e rest = rw (e, same ∙ e) (record { writer = one.writer ∙ sym (exact g s.0 (same ∙ e)); pairing = one.pairing; stands = one.stands }, all.1)
    by_order Greater e rest = rw (e, same ∙ e) (all.0, rest)

-- where nothing is at a writer, its end changes nothing
none_ends : (w : Guid) (ms : List Match) (ss : List (Guid × ProxyView)) → AllStand ms ss → lookup (λ k. is_eq (guid_order w k)) ss ≡ None → ended w ms ≡ ms
none_ends w [] [] all none = refl
none_ends w [] (s ∷ ss) all none = absurd all
none_ends w (m ∷ ms) [] all none = absurd all
none_ends w (m ∷ ms) (s ∷ ss) all none = by_test (is_eq (guid_order w s.0)) refl (none_ends w ms ss all.1)
  where
    by_test : (b : Bool) → is_eq (guid_order w s.0) ≡ b → (lookup (λ k. is_eq (guid_order w k)) ss ≡ None → ended w ms ≡ ms) → ended w (m ∷ ms) ≡ m ∷ ms
    by_test true is rest = let found : lookup (λ k. is_eq (guid_order w k)) (s ∷ ss) ≡ Some s.1 = rw is refl in absurd cc
    by_test false is rest =
        let left : lookup (λ k. is_eq (guid_order w k)) ss ≡ None = rw is at none in
        rw (at_head w m s false all.0 is) (ap (λ (l : List Match). m ∷ l) (rest left))

-- the match with a writer ends, where no other entry is at it
pub ended_stands : (w : Guid) (ms : List Match) (ss : List (Guid × ProxyView)) → AllStand ms ss → lookup (λ k. is_eq (guid_order w k)) (remove_entry (λ k. is_eq (guid_order w k)) ss) ≡ None
    → AllStand (ended w ms) (remove_entry (λ k. is_eq (guid_order w k)) ss)
ended_stands w [] [] all none = tt
ended_stands w [] (s ∷ ss) all none = absurd all
ended_stands w (m ∷ ms) [] all none = absurd all
ended_stands w (m ∷ ms) (s ∷ ss) all none = by_test (is_eq (guid_order w s.0)) refl (ended_stands w ms ss all.1)
  where
    by_test : (b : Bool) → is_eq (guid_order w s.0) ≡ b → (lookup (λ k. is_eq (guid_order w k)) (remove_entry (λ k. is_eq (guid_order w k)) ss) ≡ None → AllStand (ended w ms) (remove_entry (λ k. is_eq (guid_order w k)) ss))
        → AllStand (ended w (m ∷ ms)) (remove_entry (λ k. is_eq (guid_order w k)) (s ∷ ss))
    by_test true e rest =
        let left : lookup (λ k. is_eq (guid_order w k)) ss ≡ None = rw e at none in
        rw (at_head w m s true all.0 e, e, none_ends w ms ss all.1 left) all.1
    by_test false e rest =
        let left : lookup (λ k. is_eq (guid_order w k)) (s ∷ remove_entry (λ k. is_eq (guid_order w k)) ss) ≡ None = rw e at none in
        let more : lookup (λ k. is_eq (guid_order w k)) (remove_entry (λ k. is_eq (guid_order w k)) ss) ≡ None = rw e at left in
        rw (at_head w m s false all.0 e, e) (all.0, rest more)

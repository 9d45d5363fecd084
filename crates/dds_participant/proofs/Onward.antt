-- What readers report is handed on to backlogs, rank by rank.
use Rattle.std.proofs.Common.{◌≡◌, ℕ, ◌+◌, ◌<◌, ◌≤◌, List, [], ◌∷◌, length, map, get_or, set, Option, option_map, refl, sym, ap, ◌∙◌, subst, arith, below_more, length-set, get_or-set_other, get_or-set_same}
use Rattle.std.proofs.lemmas.List.{get_or-map, get_or_default, length-map, map-set}
use Rattle.std.proofs.Math.Seq.{map-set_same}
use Rattle.rtps_reader.specs.declared.notice.Notice.{Notice}
use Rattle.dds_participant.specs.Handing.{AreHandedOn, HaveRoomFor}
use Rattle.dds_participant.specs.Ports.{HasRoomFor, PortView, left_of, port_view, port_with, ports_view}
use Rattle.dds_participant.specs.declared.ports.Port.{Port}

-- what an item holds is in the list of what all hold
held_at : {X Y : Type 0} (f : X → List Y) (xs : List X) (i : ℕ) (x : X) → i < length xs → x ≡ get_or xs i x → f x ≡ get_or (map f xs) i []
held_at f xs i x within here = ap f here ∙ sym (get_or-map f xs i x [] within)

module _ {V : Type 0} where
  -- what one reader reports is handed on
  abbrev pub Handed : Option (Port V) → List (Notice V) → Option (Port V) → List (Notice V) → Type 0
  Handed p o q r = (option_map port_view q ≡ port_with (option_map port_view p) o) × (r ≡ left_of (option_map port_view p) o)

  -- so is that of the ranks below i, and the others are as they were
  pub record HandedBelow (old : List (Option (Port V))) (whole : List (List (Notice V))) (ports : List (Option (Port V))) (left : List (List (Notice V))) (i : ℕ) : Type 0 where
    pub count : length ports ≡ length old
    pub lists : length left ≡ length whole
    pub front : (rank : ℕ) → rank < i → (port : Option (Port V)) → Handed (get_or old rank port) (get_or whole rank []) (get_or ports rank port) (get_or left rank [])
    pub back : (rank : ℕ) (port : Option (Port V)) → i ≤ rank → get_or ports rank port ≡ get_or old rank port
    pub rest : (rank : ℕ) → i ≤ rank → get_or left rank [] ≡ get_or whole rank []

  pub handed_none : (old : List (Option (Port V))) (whole : List (List (Notice V))) → HandedBelow old whole old whole 0
  handed_none old whole = record {
    count = refl;
    lists = refl;
    front = λ rank below. absurd (omega (arith, below));
    back = λ rank port past. refl;
    rest = λ rank past. refl;
  }

  handed_next : (old : List (Option (Port V))) (whole : List (List (Notice V))) (ports : List (Option (Port V))) (left : List (List (Notice V))) (i : ℕ) (p q : Option (Port V)) (o r : List (Notice V))
      → HandedBelow old whole ports left i → i < length ports → i < length left → p ≡ get_or ports i p → o ≡ get_or left i [] → Handed p o q r
      → HandedBelow old whole (set ports i q) (set left i r) (i + 1)
  handed_next old whole ports left i p q o r a below within here there handed = record {
    count = length-set ports i q ∙ a.count;
    lists = length-set left i r ∙ a.lists;
    front = below_more P i before at;
    back = λ rank port past. get_or-set_other ports i rank q port (λ e. absurd (omega (arith, e, past))) ∙ a.back rank port (omega (arith, past));
    rest = λ rank past. get_or-set_other left i rank r [] (λ e. absurd (omega (arith, e, past))) ∙ a.rest rank (omega (arith, past));
  }
    where
      P : ℕ → Type 0
      P rank = (port : Option (Port V)) → Handed (get_or old rank port) (get_or whole rank []) (get_or (set ports i q) rank port) (get_or (set left i r) rank [])

      before : (rank : ℕ) → rank < i → (port : Option (Port V)) → Handed (get_or old rank port) (get_or whole rank []) (get_or (set ports i q) rank port) (get_or (set left i r) rank [])
      before rank less port =
          subst (λ (x : Option (Port V)). Handed (get_or old rank port) (get_or whole rank []) x (get_or (set left i r) rank [])) (sym (get_or-set_other ports i rank q port (λ e. absurd (omega (arith, e, less)))))
          (subst (λ (y : List (Notice V)). Handed (get_or old rank port) (get_or whole rank []) (get_or ports rank port) y) (sym (get_or-set_other left i rank r [] (λ e. absurd (omega (arith, e, less))))) (a.front rank less port))

      at : (port : Option (Port V)) → Handed (get_or old i port) (get_or whole i []) (get_or (set ports i q) i port) (get_or (set left i r) i [])
      at port =
          let same : p ≡ get_or old i port = here ∙ get_or_default ports i p port below ∙ a.back i port (omega arith) in
          let gave : o ≡ get_or whole i [] = there ∙ a.rest i (omega arith) in
          subst (λ (x : Option (Port V)). Handed (get_or old i port) (get_or whole i []) x (get_or (set left i r) i [])) (sym (get_or-set_same ports i q port below))
          (subst (λ (y : List (Notice V)). Handed (get_or old i port) (get_or whole i []) q y) (sym (get_or-set_same left i r [] within))
          (subst (λ (x : Option (Port V)). Handed x (get_or whole i []) q r) same (subst (λ (y : List (Notice V)). Handed p y q r) gave handed)))

  -- the same of items that hold the notices
  pub handed_more : {X : Type 0} (f : X → List (Notice V)) (old : List (Option (Port V))) (whole : List (List (Notice V))) (ports : List (Option (Port V))) (xs : List X) (i : ℕ) (p q : Option (Port V)) (x y : X)
      → HandedBelow old whole ports (map f xs) i → i < length ports → i < length xs → p ≡ get_or ports i p → x ≡ get_or xs i x → Handed p (f x) q (f y)
      → HandedBelow old whole (set ports i q) (map f (set xs i y)) (i + 1)
  handed_more {X} f old whole ports xs i p q x y a below within here there handed =
      subst (λ (l : List (List (Notice V))). HandedBelow old whole (set ports i q) l (i + 1)) (sym (map-set f xs i y))
      (handed_next old whole ports (map f xs) i p q (f x) (f y) a below (omega (arith, within, length-map xs f)) here (held_at f xs i x within there) handed)

  -- there is room at the next rank
  pub room_next : {X : Type 0} (f : X → List (Notice V)) (old : List (Option (Port V))) (whole : List (List (Notice V))) (ports : List (Option (Port V))) (xs : List X) (i : ℕ) (p : Option (Port V)) (x : X)
      → HandedBelow old whole ports (map f xs) i → HaveRoomFor old whole → i < length ports → i < length xs → p ≡ get_or ports i p → x ≡ get_or xs i x → HasRoomFor p (length (f x))
  room_next f old whole ports xs i p x a room below within here there =
      let same : p ≡ get_or old i p = here ∙ a.back i p (omega arith) in
      let gave : f x ≡ get_or whole i [] = held_at f xs i x within there ∙ a.rest i (omega arith) in
      subst (λ (v : Option (Port V)). HasRoomFor v (length (f x))) (sym same)
      (subst (λ (l : List (Notice V)). HasRoomFor (get_or old i p) (length l)) (sym gave) (room i p (omega (arith, below, a.count))))

  some_port : (ports : List (Option (Port V))) (rank : ℕ) → rank < length ports → Option (Port V)
  some_port [] rank below = absurd (omega (arith, below))
  some_port (p ∷ ports) rank below = p

  seen_at : (ports : List (Option (Port V))) (rank : ℕ) (port : Option (PortView V)) (p : Option (Port V)) → rank < length ports → get_or (ports_view ports) rank port ≡ option_map port_view (get_or ports rank p)
  seen_at ports rank port p below = get_or-map (option_map port_view) ports rank p port below

  pub handed_all : (old : List (Option (Port V))) (whole : List (List (Notice V))) (ports : List (Option (Port V))) (left : List (List (Notice V))) (i : ℕ) → HandedBelow old whole ports left i → length old ≤ i → length whole ≡ length old → AreHandedOn (ports_view old) whole (ports_view ports) left
  handed_all old whole ports left i a past readers = record {
    readers = readers ∙ sym (length-map old (option_map port_view));
    count = length-map ports (option_map port_view) ∙ a.count ∙ sym (length-map old (option_map port_view));
    lists = a.lists;
    ports = λ rank port below.
        let within : rank < length old = omega (arith, below, length-map old (option_map port_view)) in
        let p = some_port old rank within in
        let one = a.front rank (omega (arith, within, past)) p in
        seen_at ports rank port p (omega (arith, within, a.count)) ∙ one.0 ∙ ap (λ v. port_with v (get_or whole rank [])) (sym (seen_at old rank port p within));
    given = λ rank port below.
        let within : rank < length old = omega (arith, below, length-map old (option_map port_view)) in
        let p = some_port old rank within in
        let one = a.front rank (omega (arith, within, past)) p in
        one.1 ∙ ap (λ v. left_of v (get_or whole rank [])) (sym (seen_at old rank port p within));
  }

  -- one backlog more has room
  pub room_more : {X : Type 0} (f : X → List (Notice V)) (ports : List (Option (Port V))) (xs : List X) (i : ℕ) (p new : Option (Port V)) (x : X) → i < length ports → i < length xs → p ≡ get_or ports i p → x ≡ get_or xs i x
      → HasRoomFor new (length (f x))
      → ((rank : ℕ) → rank < i → (port : Option (Port V)) → HasRoomFor (get_or ports rank port) (length (get_or (map f xs) rank [])))
      → (rank : ℕ) → rank < i + 1 → (port : Option (Port V)) → HasRoomFor (get_or (set ports i new) rank port) (length (get_or (map f xs) rank []))
  room_more {X} f ports xs i p new x below within here there room before = below_more P i front at
    where
      P : ℕ → Type 0
      P rank = (port : Option (Port V)) → HasRoomFor (get_or (set ports i new) rank port) (length (get_or (map f xs) rank []))

      front : (rank : ℕ) → rank < i → (port : Option (Port V)) → HasRoomFor (get_or (set ports i new) rank port) (length (get_or (map f xs) rank []))
      front rank less port = subst (λ (v : Option (Port V)). HasRoomFor v (length (get_or (map f xs) rank []))) (sym (get_or-set_other ports i rank new port (λ e. absurd (omega (arith, e, less))))) (before rank less port)

      at : (port : Option (Port V)) → HasRoomFor (get_or (set ports i new) i port) (length (get_or (map f xs) i []))
      at port =
          subst (λ (v : Option (Port V)). HasRoomFor v (length (get_or (map f xs) i []))) (sym (get_or-set_same ports i new port below))
          (subst (λ (l : List (Notice V)). HasRoomFor new (length l)) (held_at f xs i x within there) room)

  pub same_view : (ports : List (Option (Port V))) (i : ℕ) (p new : Option (Port V)) → i < length ports → p ≡ get_or ports i p → option_map port_view new ≡ option_map port_view p → ports_view (set ports i new) ≡ ports_view ports
  same_view ports i p new below here same = map-set_same (option_map port_view) ports i new p (same ∙ ap (option_map port_view) here)

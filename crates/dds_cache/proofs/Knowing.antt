-- What becomes known when one instance is changed in its place.
use Rattle.std.proofs.Common.{◌≡◌, ℕ, ◌<◌, Bool, true, false, cond, List, Some, None, refl, sym, ap, ◌∙◌, subst}
use Rattle.std.specs.Prelude.{Option, if◌then◌else◌}
use Rattle.std.specs.Map.{lookup}
use Rattle.std.specs.Option.{option_map}
use Rattle.rtps_types.specs.declared.identity.KeyHash.{KeyHash}
use Rattle.dds_cache.specs.declared.instance.Instance.{Instance}
use Rattle.dds_cache.specs.Effects.{ChangesAt, FindsSame, fresh}
use Rattle.dds_cache.specs.Coming.{made}
use Rattle.dds_cache.specs.Standing.{InstanceView, count_in, is_key, known, known_at}
use Rattle.dds_cache.proofs.Keys.{key_is}

pub finds : {A : Type 0} (es : List (KeyHash × Instance A)) (key k : KeyHash) (i : Instance A) → lookup (is_key key) es ≡ Some i → is_key key k ≡ true → known_at es k ≡ Some (known i)
finds es key k i found h = ap (option_map known) (subst (λ q. lookup (is_key q) es ≡ Some i) (key_is key k h) found)

-- the instance that is found is changed
pub changed : {A : Type 0} (es new : List (KeyHash × Instance A)) (key : KeyHash) (i v : Instance A) (f : InstanceView → InstanceView) → lookup (is_key key) es ≡ Some i
    → ((q : KeyHash) → lookup (is_key q) new ≡ cond (is_key key q) (Some v) (lookup (is_key q) es)) → known v ≡ f (known i) → ChangesAt key (option_map f) (known_at es) (known_at new)
changed es new key i v f found updates is = λ k. by_test k (is_key key k) refl (updates k)
  where
    by_test : (k : KeyHash) (b : Bool) → is_key key k ≡ b → lookup (is_key k) new ≡ cond (is_key key k) (Some v) (lookup (is_key k) es)
        → known_at new k ≡ (if is_key key k then option_map f (known_at es k) else known_at es k)
    by_test k true h up =
        let here : lookup (is_key k) new ≡ Some v = up ∙ ap (λ b. cond b (Some v) (lookup (is_key k) es)) h in
        ap (option_map known) here ∙ ap (λ j. Some j) is ∙ sym (ap (option_map f) (finds es key k i found h)) ∙ sym (ap (λ b. if b then option_map f (known_at es k) else known_at es k) h)
    by_test k false h up =
        ap (option_map known) (up ∙ ap (λ b. cond b (Some v) (lookup (is_key k) es)) h) ∙ sym (ap (λ b. if b then option_map f (known_at es k) else known_at es k) h)

-- there is none
pub unknown : {A : Type 0} (es : List (KeyHash × Instance A)) (key : KeyHash) (f : InstanceView → InstanceView) → lookup (is_key key) es ≡ None → ChangesAt key (option_map f) (known_at es) (known_at es)
unknown es key f none = λ k. by_test k (is_key key k) refl
  where
    by_test : (k : KeyHash) (b : Bool) → is_key key k ≡ b → known_at es k ≡ (if is_key key k then option_map f (known_at es k) else known_at es k)
    by_test k true h =
        let here : known_at es k ≡ None = ap (option_map known) (subst (λ q. lookup (is_key q) es ≡ None) (key_is key k h) none) in
        here ∙ sym (ap (option_map f) here) ∙ sym (ap (λ b. if b then option_map f (known_at es k) else known_at es k) h)
    by_test k false h = sym (ap (λ b. if b then option_map f (known_at es k) else known_at es k) h)

-- the instance that is found stays as it was
pub stays : {A : Type 0} (es new : List (KeyHash × Instance A)) (key : KeyHash) (i v : Instance A) → lookup (is_key key) es ≡ Some i
    → ((q : KeyHash) → lookup (is_key q) new ≡ cond (is_key key q) (Some v) (lookup (is_key q) es)) → known v ≡ known i → FindsSame (known_at es) (known_at new)
stays es new key i v found updates is = λ k. changed es new key i v (λ j. j) found updates is k ∙ by_test k (is_key key k) (known_at es k)
  where
    by_test : (k : KeyHash) (b : Bool) (o : Option InstanceView) → (if b then option_map (λ j. j) o else o) ≡ o
    by_test k true None = refl
    by_test k true (Some j) = refl
    by_test k false o = refl

-- the instance that is found is changed, and there is no need to make one
pub changed_made : {A : Type 0} (es new : List (KeyHash × Instance A)) (key : KeyHash) (i v : Instance A) (f : InstanceView → InstanceView) → lookup (is_key key) es ≡ Some i
    → ((q : KeyHash) → lookup (is_key q) new ≡ cond (is_key key q) (Some v) (lookup (is_key q) es)) → known v ≡ f (known i) → ChangesAt key (made f) (known_at es) (known_at new)
changed_made es new key i v f found updates is = λ k. changed es new key i v f found updates is k ∙ by_test k (is_key key k) refl
  where
    by_test : (k : KeyHash) (b : Bool) → is_key key k ≡ b → (if is_key key k then option_map f (known_at es k) else known_at es k) ≡ (if is_key key k then made f (known_at es k) else known_at es k)
    by_test k true h =
        let here : known_at es k ≡ Some (known i) = finds es key k i found h in
        ap (λ b. if b then option_map f (known_at es k) else known_at es k) h ∙ ap (option_map f) here ∙ sym (ap (made f) here) ∙ sym (ap (λ b. if b then made f (known_at es k) else known_at es k) h)
    by_test k false h = ap (λ b. if b then option_map f (known_at es k) else known_at es k) h ∙ sym (ap (λ b. if b then made f (known_at es k) else known_at es k) h)

-- there is none, and one is made
pub newly_made : {A : Type 0} (es new : List (KeyHash × Instance A)) (key : KeyHash) (i : Instance A) (f : InstanceView → InstanceView) → lookup (is_key key) es ≡ None
    → ((q : KeyHash) → lookup (is_key q) new ≡ cond (is_key key q) (Some i) (lookup (is_key q) es)) → known i ≡ f fresh → ChangesAt key (made f) (known_at es) (known_at new)
newly_made es new key i f none updates is = λ k. by_test k (is_key key k) refl (updates k)
  where
    by_test : (k : KeyHash) (b : Bool) → is_key key k ≡ b → lookup (is_key k) new ≡ cond (is_key key k) (Some i) (lookup (is_key k) es) → known_at new k ≡ (if is_key key k then made f (known_at es k) else known_at es k)
    by_test k true h up =
        let here : known_at es k ≡ None = ap (option_map known) (subst (λ q. lookup (is_key q) es ≡ None) (key_is key k h) none) in
        ap (option_map known) (up ∙ ap (λ b. cond b (Some i) (lookup (is_key k) es)) h) ∙ ap (λ x. Some x) is ∙ sym (ap (made f) here) ∙ sym (ap (λ b. if b then made f (known_at es k) else known_at es k) h)
    by_test k false h up = ap (option_map known) (up ∙ ap (λ b. cond b (Some i) (lookup (is_key k) es)) h) ∙ sym (ap (λ b. if b then made f (known_at es k) else known_at es k) h)

pub counted_here : {A : Type 0} (es : List (KeyHash × Instance A)) (key : KeyHash) (i : Instance A) (all : ℕ) (joined : Bool) → lookup (is_key key) es ≡ Some i → (joined ≡ true → count_in (known_at es key) < all) → joined ≡ true → i.live < all
counted_here es key i all joined found few h = subst (λ o. count_in o < all) (ap (option_map known) found) (few h)

pub counted_none : {A : Type 0} (es : List (KeyHash × Instance A)) (key : KeyHash) (all : ℕ) (joined : Bool) → lookup (is_key key) es ≡ None → (joined ≡ true → count_in (known_at es key) < all) → joined ≡ true → 0 < all
counted_none es key all joined none few h = subst (λ o. count_in o < all) (ap (option_map known) none) (few h)

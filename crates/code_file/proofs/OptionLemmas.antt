-- Options whose image is `Some`.
use Rattle.std.proofs.Common.{◌≡◌, Option, Some, None, refl}
use Rattle.std.specs.Option.{option_and_then, option_map}
use Rattle.reg_machine.proofs.TableLemmas.{none≢some, some-is}
use Rattle.code_file.specs.inner.Spelled.{both, all_three}

pub then-some : {A B : Type 0} (f : A → Option B) (o : Option A) (y : B) → option_and_then f o ≡ Some y → (x : A) × (o ≡ Some x) × (f x ≡ Some y)
then-some f None y h = absurd (none≢some y h)
then-some f (Some x) y h = (x, refl, h)

pub map-some : {A B : Type 0} (f : A → B) (o : Option A) (y : B) → option_map f o ≡ Some y → (x : A) × (o ≡ Some x) × (f x ≡ y)
map-some f None y h = absurd (none≢some y h)
map-some f (Some x) y h = (x, refl, some-is (f x) y h)

pub both-some : {A B C : Type 0} (f : A → B → C) (a : Option A) (b : Option B) (z : C) → both f a b ≡ Some z → (x : A) × (y : B) × (a ≡ Some x) × (b ≡ Some y)
    × (f x y ≡ z)
both-some f None b z h = absurd (none≢some z h)
both-some f (Some x) None z h = absurd (none≢some z h)
both-some f (Some x) (Some y) z h = (x, y, refl, refl, some-is (f x y) z h)

pub three-some : {A B C D : Type 0} (f : A → B → C → D) (a : Option A) (b : Option B) (c : Option C) (z : D) → all_three f a b c ≡ Some z
    → (x : A) × (y : B) × (w : C) × (a ≡ Some x) × (b ≡ Some y) × (c ≡ Some w) × (f x y w ≡ z)
three-some f None b c z h = absurd (none≢some z h)
three-some f (Some x) b c z h = let k = both-some (f x) b c z h in (x, k.0, k.1, refl, k.2, k.3, k.4)

pub both-is : {A B C : Type 0} (f : A → B → C) (a : Option A) (b : Option B) (x : A) (y : B) → a ≡ Some x → b ≡ Some y → both f a b ≡ Some (f x y)
both-is f a b x y p q = (λ i. both f (p i) (q i))

pub three-is : {A B C D : Type 0} (f : A → B → C → D) (a : Option A) (b : Option B) (c : Option C) (x : A) (y : B) (w : C) → a ≡ Some x → b ≡ Some y
    → c ≡ Some w → all_three f a b c ≡ Some (f x y w)
three-is f a b c x y w p q r = (λ i. all_three f (p i) (q i) (r i))

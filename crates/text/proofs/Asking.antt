-- The input is answered exactly if it asks for something, with the kind and the value that it asks for. Assumes nothing.
use mathlib.Core.Path.{◌≡◌, refl, sym, ◌∙◌, ap, subst}
use mathlib.Core.Bool.{Bool, true, false}
use mathlib.Core.List.{List, ◌++◌}
use Prim.Native.Nat.{ℕ, ◌-◌, ◌^◌, ◌<◌}
use native.Mathlib.Omega.{arith}
use lib.ListN.{length, take, drop}
use Rattle.std.specs.Prelude.{Option, Some, None, nat_eq}
use Rattle.std.specs.List.{starts_with, ends_with}
use Rattle.std.proofs.lemmas.Bool.Decides.{Decides-eqb}
use Rattle.std.proofs.lemmas.Option.{same_Some}
use Rattle.std.proofs.lemmas.Slice.Eq.{starts_is, ends_is}
use Rattle.defs.specs.Kinds.{Kind, square, cube}
use Rattle.text.specs.Decimal.{text_of}
use Rattle.values.specs.Kinds.{name_of, kind_of}
use Rattle.text.specs.Request.{word_of, newline, number_of, Asks, good, asked_of, line_of, request_of}
use Rattle.values.specs.declared.kind.Kind.TheVariants.{Square}
use Rattle.text.specs.declared.request.Request.{Request}
use Rattle.text.proofs.Reading.{accepts, accepted, reads_back}
use Rattle.text.proofs.Texts.{text_length_32}
use Rattle.text.proofs.Requests.{behind_word, before_newline}

-- whatever asks for something is answered with it
asks_kind : (k : Kind) {v : ℕ} {s : List ℕ} → Asks k v s → asked_of (word_of k) (name_of k) s ≡ Some (good (name_of k) v)
asks_kind k a = rw (behind_word (word_of k) (name_of k) (a.digits ++ newline) a.whole, before_newline (name_of k) a.digits refl, accepts a.reads)

pub answers : (k : Kind) {v : ℕ} {s : List ℕ} → Asks k v s → request_of s ≡ Some (good (name_of k) v)
unfolding request_of asked_of
answers square a = rw (asks_kind square a)
answers cube {v} {s} a =
    let other : asked_of (word_of square) Square s ≡ None = rw a.whole in
    rw (other, asks_kind cube a)

kind_back : (k : Kind) → kind_of (name_of k) ≡ k
kind_back square = refl
kind_back cube = refl

-- whatever is answered was asked for, in either kind
asked_asks : (k : Kind) (s : List ℕ) {r : Request} → asked_of (word_of k) (name_of k) s ≡ Some r → Asks (kind_of r.kind) r.value s
unfolding asked_of line_of
asked_asks k s {r} e = by_test (starts_with nat_eq s (word_of k)) refl (ends_with nat_eq t newline) refl (number_of digits) refl
  where
    t : List ℕ
    t = drop (length (word_of k)) s

    digits : List ℕ
    digits = take (length t - 1) t

    by_test : (p : Bool) → starts_with nat_eq s (word_of k) ≡ p → (q : Bool) → ends_with nat_eq t newline ≡ q → (d : Option ℕ) → number_of digits ≡ d →
        Asks (kind_of r.kind) r.value s
    by_test false x q y d z = absurd (let none : None ≡ Some r = rw x at e in cc)
    by_test true x false y d z = absurd (let none : None ≡ Some r = rw (x, y) at e in cc)
    by_test true x true y None z = absurd (let none : None ≡ Some r = rw (x, y, z) at e in cc)
    by_test true x true y (Some v) z =
        let found = same_Some (good (name_of k) v) r (rw (x, y, z) at e) in
        subst (λ (q : Request). Asks (kind_of q.kind) q.value s) found
        (rw (kind_back k) (
        record {
          digits = digits;
          reads = accepted digits 10 4294967295 z;
          whole = (starts_is Decides-eqb s (word_of k) _ refl).0 x ∙ ap (λ (l : List ℕ). word_of k ++ l) ((ends_is Decides-eqb t newline _ refl).0 y);
        }
        ))

pub asks : (s : List ℕ) {r : Request} → request_of s ≡ Some r → Asks (kind_of r.kind) r.value s
unfolding request_of
asks s {r} e = by_test (asked_of (word_of square) Square s) refl
  where
    by_test : (first : Option Request) → asked_of (word_of square) Square s ≡ first → Asks (kind_of r.kind) r.value s
    by_test (Some q) x = asked_asks square s (x ∙ (rw x at e))
    by_test None x = asked_asks cube s (rw x at e)

-- every u32 can be asked for, in either kind
pub can_ask : (k : Kind) (n : ℕ) → n < 2 ^ 32 → Asks k n (word_of k ++ (text_of n ++ newline))
can_ask k n h = record { digits = text_of n; reads = reads_back n 10 4294967295 (text_length_32 n h) (omega arith); whole = refl }

-- an input asks for one thing at most
pub one_request : (k l : Kind) {v w : ℕ} {s : List ℕ} → Asks k v s → Asks l w s → (k ≡ l) × (v ≡ w)
one_request k l {v} {w} a b =
    let same = same_Some (good (name_of k) v) (good (name_of l) w) (sym (answers k a) ∙ answers l b) in
    (sym (kind_back k) ∙ ap (λ (r : Request). kind_of r.kind) same ∙ kind_back l, ap (λ (r : Request). r.value) same)

-- Values of SQL, compared and cast.
use Rattle.std.proofs.Common.{◌≡◌, ℕ, ℤ, pos, Bool, true, false, ◌&&◌, Option, Some, None, List, refl, sym, ap, ◌∙◌}
use Rattle.std.proofs.Common.{arith, Ordering, Less, Equal, Greater, nat_cmp, int_cmp}
use Rattle.std.specs.Prelude.{◌==◌, nat_eq, nat_le, bytes_eq}
use Rattle.std.specs.Cmp.{unsigned_ties}
use Rattle.std.specs.Cmp.Lexicographic.{lists_ties}
use Rattle.std.specs.Ordering.{ordering_then, is_eq, is_ge, is_le}
use Rattle.std.proofs.lemmas.Cmp.{nat_cmp_total}
use Rattle.std.proofs.lemmas.Bool.Decides.{nat_tests}
use Rattle.sqlite_value.specs.declared.value.Value.{Value}
use Rattle.sqlite_value.specs.declared.value.Value.TheVariants.{Null, Int, Text as Words, Blob}
use Rattle.sqlite_value.specs.declared.keys.Collation.TheVariants.{Binary}
use Rattle.sqlite_value.specs.Order.{value_cmp}
use Rattle.sqlite_value.proofs.OrderLemmas.{value_cmp-Int, value_cmp-Text, value_cmp-Blob}
use Rattle.sqlite_sql.specs.Ops.{binary, is_true, from_truth, test}
use Rattle.sqlite_sql.specs.declared.ops.BinaryOp.TheVariants.{Compare}
use Rattle.sqlite_sql.specs.declared.ops.CompareOp.{CompareOp}
use Rattle.sqlite_sql.specs.declared.ops.CompareOp.TheVariants.{Eq, Ge, Le}
use Rattle.sqlite_schema.specs.declared.schema.Kind.TheVariants.{Integer}
use Rattle.sqlite_rules.specs.Cast.{cast}
use Rattle.sqlite.specs.Values.{or_null, bound_value}
use Rattle.station_tables_records.proofs.StatementLemmas.{cast_null, cast_int}
use Rattle.station_tables_records.proofs.WriteLemmas.{turned_eq}
use Rattle.vault_core.specs.Tape.{stands_in}
use Rattle.station_tables_records.specs.Values.{of_nat, maybe_nat_in, of_bool, bool_in}

pub then-Equal : (o : Ordering) → ordering_then o Equal ≡ o
then-Equal Less = refl
then-Equal Equal = refl
then-Equal Greater = refl

pub int_nat : (m n : ℕ) → int_cmp (pos m) (pos n) ≡ nat_cmp m n
int_nat m n = grind (arith, nat_tests)

-- values of SQL that are numbers compare as the numbers
pub nats_cmp : (m n : ℕ) → value_cmp (of_nat m) (of_nat n) ≡ nat_cmp m n
nats_cmp m n = value_cmp-Int (pos m) (pos n) ∙ int_nat m n

and_true : (b : Bool) → (b && true) ≡ b
and_true true = refl
and_true false = refl

is_true_test : (b : Bool) → is_true (from_truth (Some b)) ≡ b
is_true_test true = refl
is_true_test false = refl

-- a comparison of two numbers in WHERE
compares : (op : CompareOp) (m n : ℤ) → is_true (binary (Compare op Binary) (Int m) (Int n)) ≡ test op (int_cmp m n)
unfolding binary
compares op m n = is_true_test _ ∙ ap (test op) (value_cmp-Int m n)

same_number : (m n : ℕ) → is_eq (nat_cmp m n) ≡ (m == n)
same_number m n = grind (arith, nat_tests)

-- a column that is a number equals another
pub is_number : (value : Value) (m n : ℕ) → value ≡ of_nat m
    → is_true (binary (Compare Eq Binary) value (of_nat n)) ≡ (m == n)
is_number value m n is =
    ap (λ v. is_true (binary (Compare Eq Binary) v (of_nat n))) is ∙ compares Eq (pos m) (pos n)
    ∙ ap is_eq (int_nat m n) ∙ same_number m n

pub equals : (value : Value) (m n : ℕ) → value ≡ of_nat m
    → is_true (binary (Compare Eq Binary) value (of_nat n)) && true ≡ (m == n)
equals value m n is = and_true _ ∙ is_number value m n is

-- one from another on, and one up to another
not_below : (m n : ℕ) → is_ge (nat_cmp m n) ≡ nat_le n m
not_below m n = grind (arith, nat_tests)

not_above : (m n : ℕ) → is_le (nat_cmp m n) ≡ nat_le m n
not_above m n = grind (arith, nat_tests)

pub is_from : (value : Value) (m n : ℕ) → value ≡ of_nat m
    → is_true (binary (Compare Ge Binary) value (of_nat n)) ≡ nat_le n m
is_from value m n is =
    ap (λ v. is_true (binary (Compare Ge Binary) v (of_nat n))) is ∙ compares Ge (pos m) (pos n)
    ∙ ap is_ge (int_nat m n) ∙ not_below m n

pub is_up_to : (value : Value) (m n : ℕ) → value ≡ of_nat m
    → is_true (binary (Compare Le Binary) value (of_nat n)) && true ≡ nat_le m n
is_up_to value m n is =
    and_true _ ∙ ap (λ v. is_true (binary (Compare Le Binary) v (of_nat n))) is ∙ compares Le (pos m) (pos n)
    ∙ ap is_le (int_nat m n) ∙ not_above m n

-- one that is a text
same_text : (s t : List ℕ) → is_true (binary (Compare Eq Binary) (Words s) (Words t)) ≡ bytes_eq s t
unfolding binary
same_text s t = is_true_test _ ∙ ap is_eq (value_cmp-Text s t) ∙ sym (lists_ties {E = nat_eq} nat_cmp unsigned_ties s t)

pub equals_text : (value : Value) (s t : List ℕ) → value ≡ Words s
    → is_true (binary (Compare Eq Binary) value (Words t)) && true ≡ bytes_eq s t
equals_text value s t is = and_true _ ∙ ap (λ v. is_true (binary (Compare Eq Binary) v (Words t))) is ∙ same_text s t

-- one that may be NULL
null_unequal : (n : ℕ) → is_true (binary (Compare Eq Binary) Null (of_nat n)) ≡ false
unfolding binary
null_unequal n = refl

pub equals_slot : (value : Value) (slot : Option ℕ) (n : ℕ) → value ≡ or_null of_nat slot
    → is_true (binary (Compare Eq Binary) value (of_nat n)) && true ≡ stands_in n slot
equals_slot value None n is =
    and_true _ ∙ ap (λ v. is_true (binary (Compare Eq Binary) v (of_nat n))) is ∙ null_unequal n
equals_slot value (Some s) n is = equals value s n is

pub both_eq : (a b : Ordering) → is_eq (ordering_then a b) ≡ is_eq a && is_eq b
both_eq Less b = refl
both_eq Equal b = refl
both_eq Greater b = refl

pub flipped : (a b : ℕ) → is_eq (nat_cmp a b) ≡ (b == a)
flipped a b = ap is_eq (nat_cmp_total.antisymm a b) ∙ turned_eq (nat_cmp b a) ∙ same_number b a

-- a number that may be NULL
pub maybe_again : (n : Option ℕ) → maybe_nat_in (or_null of_nat n) ≡ n
maybe_again None = refl
maybe_again (Some n) = refl

pub bound_maybe : (n : Option ℕ) → bound_value (or_null of_nat n) ≡ or_null of_nat n
bound_maybe None = refl
bound_maybe (Some n) = refl

pub cast_maybe : (n : Option ℕ) → cast Integer (or_null of_nat n) ≡ or_null of_nat n
cast_maybe None = cast_null
cast_maybe (Some n) = cast_int (pos n)

-- a blob
same_bytes : (s t : List ℕ) → is_true (binary (Compare Eq Binary) (Blob s) (Blob t)) ≡ bytes_eq s t
unfolding binary
same_bytes s t =
    is_true_test _ ∙ ap is_eq (value_cmp-Blob s t) ∙ sym (lists_ties {E = nat_eq} nat_cmp unsigned_ties s t)

pub equals_bytes : (value : Value) (s t : List ℕ) → value ≡ Blob s
    → is_true (binary (Compare Eq Binary) value (Blob t)) && true ≡ bytes_eq s t
equals_bytes value s t is = and_true _ ∙ ap (λ v. is_true (binary (Compare Eq Binary) v (Blob t))) is ∙ same_bytes s t

-- yes and no
pub bool_again : (b : Bool) → bool_in (of_bool b) ≡ b
bool_again true = refl
bool_again false = refl

pub cast_bool : (b : Bool) → cast Integer (of_bool b) ≡ of_bool b
cast_bool true = cast_int (pos 1)
cast_bool false = cast_int (pos 0)

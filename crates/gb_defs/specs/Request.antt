-- The request that the words of a command line spell: the command, and then options in any order, each
-- but `--explain` followed by its value.
use Rattle.std.specs.Prelude.{ℕ, ◌+◌, nat_eq, nat_le, ◌&&◌, Bool, true, false, List, [], ◌∷◌, ◌++◌, length, drop, position, take, Option, Some, None, option_map, option_and_then, unwrap_or, if◌then◌else◌, codes}
use Rattle.std.specs.Str.{bytes_eq}
use Rattle.std.specs.Str.Parse.{digits_value}
use Rattle.gb_defs.specs.Cell.{is_numeral}
use Rattle.gb_defs.specs.Fold.{Method, Min, Max, First, Last, Sum, Groups, NUnique, Count, Implode}

-- the options of the program
pub record ToolOptions : Type 0 where
  pub workers : ℕ
  pub partitions : ℕ
  pub piece : ℕ
  pub threshold : ℕ
  pub seed : ℕ
  pub null_word : List ℕ
  pub explain : Bool

pub data Request : Type 0 where
  -- the key columns, the aggregates with their columns, and the options
  Group : List (List ℕ) → List (List ℕ × Method) → ToolOptions → Request

-- the method of a word that stands before a column's name; a count is of all rows, or of the valid ones
unfoldable pub method_named : List ℕ → Option Method
method_named word =
    if bytes_eq word (codes "sum") then Some Sum
    else if bytes_eq word (codes "min") then Some Min
    else if bytes_eq word (codes "max") then Some Max
    else if bytes_eq word (codes "first") then Some First
    else if bytes_eq word (codes "last") then Some Last
    else if bytes_eq word (codes "n_unique") then Some NUnique
    else if bytes_eq word (codes "count") then Some (Count true)
    else if bytes_eq word (codes "valid") then Some (Count false)
    else if bytes_eq word (codes "list") then Some Implode
    else None

-- METHOD:NAME, where the colon stands
abbrev pub agg_at : List ℕ → Option ℕ → Option (List ℕ × Method)
agg_at word None = None
agg_at word (Some colon) = option_map (λ method. (drop (colon + 1) word, method)) (method_named (take colon word))

-- the row numbers, which are asked of no column, or METHOD:NAME, the method before the first colon
unfoldable pub agg_of : List ℕ → Option (List ℕ × Method)
agg_of word = if bytes_eq word (codes "groups") then Some ([], Groups) else agg_at word (position (nat_eq 58) word)

-- one to twenty decimal digits, in range
unfoldable pub number_within : ℕ → ℕ → List ℕ → Option ℕ
number_within least most word =
    if is_numeral word && nat_le (length word) 20 && nat_le least (digits_value 10 word) && nat_le (digits_value 10 word) most
    then Some (digits_value 10 word) else None

-- the numbers that were given so far
pub record Numbers : Type 0 where
  pub workers : Option ℕ
  pub partitions : Option ℕ
  pub piece : Option ℕ
  pub threshold : Option ℕ
  pub seed : Option ℕ

abbrev pub no_numbers : Numbers
no_numbers = record { workers = None; partitions = None; piece = None; threshold = None; seed = None }

-- a value for what was not given before
abbrev pub once : {A : Type 0} → Option A → Option A → Option A
once None value = value
once (Some before) value = None

unfoldable pub with_number : List ℕ → List ℕ → Numbers → Option Numbers
with_number option word n =
    if bytes_eq option (codes "--workers") then option_map (λ v. record n { workers = Some v }) (once n.workers (number_within 1 64 word))
    else if bytes_eq option (codes "--partitions") then option_map (λ v. record n { partitions = Some v }) (once n.partitions (number_within 1 1024 word))
    else if bytes_eq option (codes "--piece") then option_map (λ v. record n { piece = Some v }) (once n.piece (number_within 1 4294967295 word))
    else if bytes_eq option (codes "--threshold") then option_map (λ v. record n { threshold = Some v }) (once n.threshold (number_within 1 4294967295 word))
    else if bytes_eq option (codes "--seed") then option_map (λ v. record n { seed = Some v }) (once n.seed (number_within 0 18446744073709551615 word))
    else None

-- what was given so far
pub record Given : Type 0 where
  pub by : List (List ℕ)
  pub aggs : List (List ℕ × Method)
  pub numbers : Numbers
  pub null_word : Option (List ℕ)
  pub explain : Bool

abbrev pub nothing : Given
nothing = record { by = []; aggs = []; numbers = no_numbers; null_word = None; explain = false }

-- with a key more
abbrev pub with_key : List ℕ → Given → Option Given
with_key word g = Some (record g { by = g.by ++ word ∷ [] })

-- with an aggregate more
abbrev pub with_agg : List ℕ → Given → Option Given
with_agg word g = option_map (λ agg. record g { aggs = g.aggs ++ agg ∷ [] }) (agg_of word)

abbrev pub with_null_word : List ℕ → Given → Option Given
with_null_word word g = option_map (λ v. record g { null_word = Some v }) (once g.null_word (Some word))

abbrev pub with_explain : Given → Option Given
with_explain g = if g.explain then None else Some (record g { explain = true })

abbrev pub with_numbers : List ℕ → List ℕ → Given → Option Given
with_numbers option word g = option_map (λ n. record g { numbers = n }) (with_number option word g.numbers)

-- an option with its value
unfoldable pub with_option : List ℕ → List ℕ → Given → Option Given
with_option option word g =
    if bytes_eq option (codes "--by") then with_key word g
    else if bytes_eq option (codes "--agg") then with_agg word g
    else if bytes_eq option (codes "--null") then with_null_word word g
    else with_numbers option word g

unfoldable pub given_from : List (List ℕ) → Given → Option Given
given_from [] g = Some g
given_from (option ∷ []) g = if bytes_eq option (codes "--explain") then with_explain g else None
given_from (option ∷ word ∷ rest) g =
    if bytes_eq option (codes "--explain") then option_and_then (given_from (word ∷ rest)) (with_explain g)
    else option_and_then (given_from rest) (with_option option word g)

-- the defaults filled in; there are as many partitions as workers
abbrev pub options_of : Numbers → List ℕ → Bool → ToolOptions
options_of n null_word explain =
    let workers = unwrap_or n.workers 4 in record {
      workers = workers;
      partitions = unwrap_or n.partitions workers;
      piece = unwrap_or n.piece 4096;
      threshold = unwrap_or n.threshold 1000;
      seed = unwrap_or n.seed 0;
      null_word = null_word;
      explain = explain;
    }

abbrev pub default_options : ToolOptions
default_options = options_of no_numbers [] false

-- the keys that are asked for: at least one
abbrev pub asked_keys : List (List ℕ) → Option (List (List ℕ))
asked_keys [] = None
asked_keys (name ∷ names) = Some (name ∷ names)

abbrev pub group_of : Given → Option Request
group_of g = option_map (λ names. Group names g.aggs (options_of g.numbers (unwrap_or g.null_word []) g.explain)) (asked_keys g.by)

unfoldable pub request : List (List ℕ) → Option Request
request [] = None
request (command ∷ options) = if bytes_eq command (codes "group") then option_and_then group_of (given_from options nothing) else None

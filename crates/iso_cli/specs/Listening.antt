-- What the words of a host on a port ask.
use Rattle.std.specs.Prelude.{◌≡◌, ◌≤◌, IsTrue, ℕ, List, [], ◌∷◌, codes}
use Rattle.std.specs.Str.Parse.{IsNumeral, digits_value, without_leading_plus}
use Rattle.iso_cli.specs.declared.listening.Listening.{Listening}
use Rattle.iso_cli.specs.Words.{AsksNothing, header_name, is_name}

-- the word writes this number, which lies in these bounds: decimal digits, with a plus in front or none
pub record IsWholeNumber (low high : ℕ) (word : List ℕ) (n : ℕ) : Type 0 where
  pub digits : IsNumeral 10 (without_leading_plus word)
  pub value : n ≡ digits_value 10 (without_leading_plus word)
  pub least : low ≤ n
  pub most : n ≤ high

-- the words for a host's table, accounts, header, port and count of connections
pub record HostWords : Type 0 where
  pub table : List ℕ
  pub accounts : List ℕ
  pub header : List ℕ
  pub port : List ℕ
  pub count : List ℕ

-- these five words
abbrev pub host_words : List ℕ → List ℕ → List ℕ → List ℕ → List ℕ → HostWords
host_words table accounts header port count = record {
  table = table;
  accounts = accounts;
  header = header;
  port = port;
  count = count;
}

-- these words name a host's table, accounts, header, port and count
pub record Listens (w : HostWords) (l : Listening) : Type 0 where
  pub table_name : IsTrue (is_name w.table)
  pub accounts_name : IsTrue (is_name w.accounts)
  pub table_is : l.table.now ≡ w.table
  pub accounts_is : l.accounts.now ≡ w.accounts
  pub header_is : w.header ≡ header_name l.header
  pub port_is : IsWholeNumber 1 65535 w.port l.port
  pub count_is : IsWholeNumber 1 1000 w.count l.count

-- these words spell a host on a port
pub record AsksServe (words : List (List ℕ)) (l : Listening) : Type 0 where
  pub table : List ℕ
  pub accounts : List ℕ
  pub header : List ℕ
  pub port : List ℕ
  pub count : List ℕ
  pub listens : Listens (host_words table accounts header port count) l
  pub spelled : words ≡ codes "serve" ∷ table ∷ accounts ∷ header ∷ port ∷ count ∷ []

-- these words spell no host on a port
abbrev pub AsksNoServe : List (List ℕ) → Type 0
AsksNoServe words = (l : Listening) → AsksServe words l → ⊥

-- these words are no command line
pub record IsNoCommand (words : List (List ℕ)) : Type 0 where
  pub job : AsksNothing words
  pub host : AsksNoServe words

-- The builds of two documents that `diff` compares: `feats diff OLD NEW`.
use Rattle.std.specs.Prelude.{◌≡◌, [], ◌∷◌, Bool, ◌||◌, Option, None, Some, IsSomeAnd, codes, is_some, option_map, if◌then◌else◌}
use Rattle.std.specs.Borrow.{Bor}
use Rattle.clap.specs.Words.{Text}
use Rattle.feats_words.specs.Requests.{RequestText, document_request}
use Rattle.feats_words.specs.Views.{request_text}
use Rattle.feats_files.specs.Messages.{joined}
use Rattle.feats.specs.declared.comparisons.documents.ComparedRequests.{ComparedRequests}

-- The requests about the builds of two documents.
pub record RequestsText : Type 0 where
  pub old : RequestText
  pub new : RequestText

abbrev pub requests_text : ComparedRequests → RequestsText
requests_text r = record { old = request_text r.old; new = request_text r.new }

-- The text of a word that may be given.
abbrev pub word : Option (Bor Text) → Option Text
word given = option_map (λ t. t.now) given

-- Whether a word says the version of the resolver: the version itself, or the root manifest from which it is read.
abbrev pub is_known : Option Text → Option Text → Bool
is_known version manifest = is_some version || is_some manifest

-- The first document whose resolver no word says: OLD by --old-manifest, or NEW by --manifest, if there is no version.
abbrev pub unknown : RequestText → Text → Option Text
unknown r new =
    if is_known r.resolver r.old_manifest then (if is_known r.resolver r.manifest then None else Some new)
    else Some r.metadata

-- Each document has a request of its own, with its own manifest.
abbrev pub requests : RequestText → Text → RequestsText
requests r new = record { old = document_request r r.metadata r.old_manifest; new = document_request r new r.manifest }

abbrev pub unknown_message : Text → Text
unknown_message document =
    joined (codes "the resolver of `" ∷ document
    ∷ codes "` isn't known: name the root manifest of OLD by --old-manifest and that of NEW by --manifest, or write --resolver" ∷ [])

-- The message is about the first document whose resolver isn't known.
abbrev pub IsUnknown : RequestText → Text → Text → Type 0
IsUnknown r new message = IsSomeAnd (unknown r new) (λ document. message ≡ unknown_message document)

pub mod ShortReplies
